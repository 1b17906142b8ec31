use Rattle.std.proofs.Common.{◌≡◌, ℕ, ◌+◌, ◌<◌, ◌≤◌, [], ◌∷◌, ◌++◌, length, replicate, ap, ◌∙◌, sym, subst, arith}
use Rattle.std.proofs.lemmas.List.{length-replicate, replicate_more}
use Rattle.std.proofs.lemmas.List.Elements.{All-replicate}
use Rattle.set_model.specs.Catalogue.{Map, Maps, IsMap, FitsTypes, IsCatalogue, empty}
use Rattle.set_model.proofs.catalogue.Catalogue.new.Goals as goal

-- one more empty map
one_more : (n : ℕ) (maps after : Maps) (m : Map) → maps ≡ replicate n [] → m ≡ [] → after ≡ maps ++ m ∷ [] → after ≡ replicate (n + 1) []
one_more n maps after m are none is =
    is ∙ ap (λ (ms : Maps). ms ++ m ∷ []) are ∙ ap (λ (x : Map). replicate n [] ++ x ∷ []) none ∙ replicate_more n []

-- there is room for another where there are fewer than thirty
has_room : (n len room : ℕ) (maps : Maps) → len ≡ length maps → maps ≡ replicate n [] → room ≡ 30 → n < 30 → len < room
has_room n len room maps len_is are room_is lt = let count : length maps ≡ n = ap length are ∙ length-replicate n [] in omega arith

-- all thirty
all_empty : (n : ℕ) (maps : Maps) → maps ≡ replicate n [] → n ≤ 30 → 30 ≤ n → maps ≡ empty
all_empty n maps are most least = let all : n ≡ 30 = omega arith in are ∙ ap (λ (m : ℕ). replicate m []) all

-- empty maps are a catalogue
empty_is_catalogue : IsCatalogue empty
empty_is_catalogue = record {
  whole = length-replicate {A = Map} 30 [];
  rising = All-replicate IsMap 30 [] tt;
  fits = All-replicate FitsTypes 30 [] tt;
}

pub loop-init : goal.loop-init
loop-init c = (c.in_ok-maps.ensures.items, c.in_ok-maps.ensures.exact)

pub push_reserved-requires : goal.push_reserved-requires
push_reserved-requires c = has_room _ _ _ _ c.loop.maps.ok.0 c.loop.invariant.0 c.loop.invariant.1 c.loop-test.true

pub loop-preserved : goal.loop-preserved
loop-preserved c = (
  one_more _ _ _ _ c.loop.invariant.0 c.new.ensures c.push_reserved.ensures.items,
  c.push_reserved.ensures.capacity ∙ c.loop.invariant.1,
)

pub invariant_of-result : goal.invariant_of-result
invariant_of-result c = subst IsCatalogue (sym (all_empty _ _ c.loop.invariant.0 c.loop.auto.counter-end c.loop-test.false)) empty_is_catalogue

pub returns : goal.returns
returns c = all_empty _ _ c.loop.invariant.0 c.loop.auto.counter-end c.loop-test.false
