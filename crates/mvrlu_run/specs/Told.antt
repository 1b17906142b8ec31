-- The texts that words ask for, and what is left of the domain that was run for it.
use Rattle.std.specs.Prelude.{◌≡◌, ℕ, List, [], Option}
use Rattle.block_run.specs.BlockRuns.{IsTextOfBlocks}
use Rattle.grow_run.specs.GrowRuns.{IsTextOfGrown}
use Rattle.run_ends.specs.mvrlu.declared.closing.Closing.{Closing}
use Rattle.pool_run.specs.PoolRuns.{IsTextOfPool}
use Rattle.replay_run.specs.ReplayRuns.{IsTextOfPlan}
use Rattle.run_ends.specs.declared.finish.LeftDomain.{LeftDomain}
use Rattle.run_ends.specs.declared.finish.LeftDomain.TheVariants.{No, Sets, Blocks, Grown}
use Rattle.host_io.specs.Outside.{Texts}
use Rattle.run_words.specs.Words.{Asks, run, gen, work, block, pool, grow, replay}
use Rattle.run_ends.specs.script_files.declared.scripts.Grammar.TheVariants as grammars
use Rattle.run_ends.specs.script_files.Scripts.{Reading, commands, blocks, plans}
use Rattle.script_gen.specs.Script.{text_of_script}
use Rattle.script_run.specs.ScriptRuns.{IsTextOfScripts, IsTextOfWork}

-- a domain is left, its closing so, and the text is that of its run
abbrev pub IsTextOver : {Rules : Type 0} → (Closing Rules → LeftDomain) → (Closing Rules → List ℕ → Type 0) → LeftDomain → List ℕ → Type 0
IsTextOver {Rules} left is_text closed text = (closing : Closing Rules) × (closed ≡ left closing) × is_text closing text

-- no domain is left, and the text is this
abbrev pub IsTextAlone : (List ℕ → Type 0) → LeftDomain → List ℕ → Type 0
IsTextAlone is_text closed text = (closed ≡ No) × is_text text

-- the text is one that is asked for, and this is left of the domain that was run for it
abbrev pub IsTextFor : Asks → Option Texts → LeftDomain → List ℕ → Type 0
IsTextFor (run options names) texts = IsTextOver Sets (IsTextOfScripts options texts names)
IsTextFor (block names) texts = IsTextOver Blocks (IsTextOfBlocks texts names)
IsTextFor (pool seats names) texts = IsTextOver Sets (IsTextOfPool seats texts names)
IsTextFor (grow names) texts = IsTextOver Grown (IsTextOfGrown texts names)
IsTextFor (work number) texts = IsTextOver Sets (IsTextOfWork number)
IsTextFor (gen number seat) texts = IsTextAlone (λ text. text ≡ text_of_script number seat)
IsTextFor (replay names) texts = IsTextAlone (IsTextOfPlan texts names)

-- the files that are to be read
abbrev pub files_of : Asks → List (List ℕ)
files_of (run options names) = names
files_of (gen number seat) = []
files_of (work number) = []
files_of (block names) = names
files_of (pool seats names) = names
files_of (grow names) = names
files_of (replay names) = names

-- and as what
abbrev pub reading_of : Asks → Reading
reading_of (block names) = blocks
reading_of (grow names) = commands grammars.Growing
reading_of (replay names) = plans
reading_of asks = commands grammars.Sets
