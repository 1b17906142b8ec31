-- A growing hash set begins with the empty catalogue.
use Rattle.std.proofs.Common.{◌≡◌, ℕ, suc, ◌+◌, ◌<◌, false, cond, List, [], ◌∷◌, length, drop, set, refl}
use Rattle.std.proofs.Common.{ap, ◌∙◌, arith}
use Rattle.std.proofs.lemmas.List.{get_or-drop, length-drop}
use Rattle.mv_history.specs.State.{State}
use Rattle.mv_history.specs.Meaning.{words_at}
use Rattle.set_model.specs.Catalogue.{empty, put}
use Rattle.set_model.specs.CatalogueOf.{map_among}
use Rattle.set_model.proofs.ObjectWords.{word}
use Rattle.grow_hash.specs.Grown.{IsGrownOpening, grown_catalogue, grown_map, grown_name, is_used}
use Rattle.grow_hash.specs.Tables.{grow_levels}

none_picked : (test : List ℕ → _) (s : State) → ((i : ℕ) → i < length s → test (words_at s i) ≡ false) → map_among test s ≡ []
unfolding map_among
none_picked test [] f = refl
none_picked test (w ∷ s) f =
    ap (λ b. cond b (put (word 2 w) (word 5 w) (map_among test s)) (map_among test s)) (f 0 (omega arith))
    ∙ none_picked test s (λ i l. f (suc i) (omega arith))

opening_map : (s : State) → IsGrownOpening grow_levels s → grown_map grow_levels s ≡ []
opening_map s z =
    none_picked is_used (drop 1025 s)
    (λ i lt.
    let within : 1025 + i < length s = omega (arith, lt, length-drop 1025 s) in
    ap is_used (get_or-drop 1025 s i [] ∙ z.zeros (1025 + i) within))

pub grown_empty : (s : State) → IsGrownOpening grow_levels s → grown_catalogue grow_levels s ≡ empty
grown_empty s z = ap (λ m. set empty grown_name m) (opening_map s z)
