-- What files and a sink in memory are.
use Rattle.std.specs.Prelude.{ℕ, ◌+◌, ◌-◌, ◌^◌, min, List, [], ◌∷◌, drop, slice_get, string_bytes, Option, None, Some, if◌then◌else◌}
use Rattle.std.specs.Option.{option_map}
use Rattle.std.specs.Str.{bytes_eq}
use Rattle.host_io.specs.Outside.{Faults}
use Rattle.memory_io.specs.declared.memory.MemText.{MemText}

-- the first text of this name
abbrev pub text_of : List (List ℕ × List ℕ) → List ℕ → Option (List ℕ)
text_of [] name = None
text_of (t ∷ ts) name = if bytes_eq t.0 name then Some (t.1) else text_of ts name

-- files in memory: texts by name, most bytes of a read, calls that fail, calls and faults so far, the names of the texts of which a call
-- failed, the name of the open text and what is left of it
pub record FilesState : Type 0 where
  pub texts : List (List ℕ × List ℕ)
  pub most : ℕ
  pub fails : List ℕ
  pub calls : ℕ
  pub faults : ℕ
  pub failures : List (List ℕ)
  pub opened : Option (List ℕ)
  pub left : Option (List ℕ)

-- how often a call failed, and of which names
abbrev pub faults_in : FilesState → Faults
faults_in s = record { count = s.faults; names = s.failures }

-- a sink in memory: its whole room, most bytes of a write, calls that fail, calls and faults so far, the bytes written
pub record SinkState : Type 0 where
  pub room : ℕ
  pub most : ℕ
  pub fails : List ℕ
  pub calls : ℕ
  pub faults : ℕ
  pub written : List ℕ

-- a name and its bytes
abbrev pub named : MemText → List ℕ × List ℕ
named t = (string_bytes t.name, t.bytes.items)

-- what is left of the text of this index from a place on
abbrev pub left_from : List (List ℕ × List ℕ) → Option ℕ → ℕ → Option (List ℕ)
left_from texts None place = None
left_from texts (Some i) place = option_map (λ t. drop place t.1) (slice_get texts i)
