-- What the answers of the calls of a set tell: which is no other one, and what it carries.
use Rattle.std.proofs.Common.{◌≡◌, ◌↔◌, ℕ, Bool, true, false}
use Rattle.section_work.specs.declared.causes.Refusal.{Refusal}
use Rattle.list_set.specs.declared.answers.SetStep.TheVariants.{Yes, No, Again}
use Rattle.list_set.specs.declared.answers.Removed.TheVariants.{Took, Absent, Again as DelAgain}

-- `No` is not `Yes`
pub no_not_yes : No ≡ Yes → ⊥
no_not_yes e = cc

-- `No` is no refusal
pub no_not_again : (refusal : Refusal) → No ≡ Again refusal → ⊥
no_not_again refusal e = cc

-- `Yes` is not `No`
pub yes_not_no : Yes ≡ No → ⊥
yes_not_no e = cc

-- `Yes` is no refusal
pub yes_not_again : (refusal : Refusal) → Yes ≡ Again refusal → ⊥
yes_not_again refusal e = cc

-- a refusal is not `No`
pub again_not_no : (refusal : Refusal) → Again refusal ≡ No → ⊥
again_not_no refusal e = cc

-- a refusal is not `Yes`
pub again_not_yes : (refusal : Refusal) → Again refusal ≡ Yes → ⊥
again_not_yes refusal e = cc

-- a refusal carries one refusal
pub again_refusal : (a b : Refusal) → Again a ≡ Again b → a ≡ b
again_refusal a b e = cc

-- `Yes` is not `No`, and the test that `No` stands for failed
pub yes_denies : (b : Bool) → b ≡ false → (Yes ≡ No) ↔ (b ≡ true)
yes_denies b denied = (λ e. cc, λ t. cc)

-- nor is a refusal
pub again_denies : (refusal : Refusal) (b : Bool) → b ≡ false → (Again refusal ≡ No) ↔ (b ≡ true)
again_denies refusal b denied = (λ e. cc, λ t. cc)

-- where `Absent` came nothing was taken
pub absent_not_took : (node inner : ℕ) → Absent ≡ Took node inner → ⊥
absent_not_took node inner e = cc

-- `Absent` is no refusal
pub absent_not_again : (refusal : Refusal) → Absent ≡ DelAgain refusal → ⊥
absent_not_again refusal e = cc

-- `Took` is not `Absent`
pub took_not_absent : (node inner : ℕ) → Took node inner ≡ Absent → ⊥
took_not_absent node inner e = cc

-- `Took` is no refusal
pub took_not_again : (node inner : ℕ) (refusal : Refusal) → Took node inner ≡ DelAgain refusal → ⊥
took_not_again node inner refusal e = cc

-- a refused del is not `Absent`
pub del_again_not_absent : (refusal : Refusal) → DelAgain refusal ≡ Absent → ⊥
del_again_not_absent refusal e = cc

-- a refused del took nothing
pub del_again_not_took : (refusal : Refusal) (node inner : ℕ) → DelAgain refusal ≡ Took node inner → ⊥
del_again_not_took refusal node inner e = cc

-- a refused del carries one refusal
pub del_again_refusal : (a b : Refusal) → DelAgain a ≡ DelAgain b → a ≡ b
del_again_refusal a b e = cc

-- `Took` carries one node
pub took_node : (node inner other above : ℕ) → Took node inner ≡ Took other above → node ≡ other
took_node node inner other above e = cc

-- and one inner node
pub took_inner : (node inner other above : ℕ) → Took node inner ≡ Took other above → inner ≡ above
took_inner node inner other above e = cc

-- `Took` is not `Absent`, and the test whose failure `Absent` stands for did not fail
pub took_found : (node inner : ℕ) (b : Bool) → b ≡ true → (Took node inner ≡ Absent) ↔ (b ≡ false)
took_found node inner b found = (λ e. cc, λ t. cc)

-- nor is a refused del
pub del_again_found : (refusal : Refusal) (b : Bool) → b ≡ true → (DelAgain refusal ≡ Absent) ↔ (b ≡ false)
del_again_found refusal b found = (λ e. cc, λ t. cc)
