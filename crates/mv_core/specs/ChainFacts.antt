-- What the links of an object's version chain are. None of these facts follows a chain: each looks at one link.
use Rattle.std.specs.Prelude.{◌≡◌, ◌⊎◌, ℕ, ◌+◌, ◌-◌, true, false, List, length, Option}
use Rattle.mv_history.specs.declared.Entry.{Entry}
use Rattle.mv_history.specs.State.{State}
use Rattle.mv_layout.specs.declared.Config.{Config}
use Rattle.mv_layout.specs.Words.{link_of}
use Rattle.mv_core.specs.declared.ring.Ring.{Ring}
use Rattle.mv_core.specs.declared.ring.Version.{Version}
use Rattle.mv_core.specs.declared.ring.WriteSetStatus.{WriteSetStatus}
use Rattle.mv_core.specs.declared.ring.WriteSetStatus.TheVariants.{Held, Aborted, Committed}
use Rattle.mv_core.specs.declared.ring.CommitNote.{CommitNote}
use Rattle.mv_core.specs.Rings.{Lives, Names, IsGone, IsVersion, NoneHolds, NoneUncut, IsTop}
use Rattle.mv_core.specs.Times.{latest, latest_at, words_of, AreThe, NotAboveAny}

-- head-is-top: HEAD is the held version of the object if there is one, and else its top
pub record HeadIsTop (c : Config) (h : List Entry) (head : ℕ → ℕ) (rings : ℕ → Ring) : Type 0 where
  pub held : (s k : ℕ) (x : Version) → Lives rings s k x Held → head x.object ≡ link_of s x.position
  pub top : (o : ℕ) → NoneHolds rings o → IsTop rings o (latest c.base h o) (head o)

-- held-link: the previous link of a held version is its object's top
abbrev pub HeldLink : Config → List Entry → (ℕ → Ring) → Type 0
HeldLink c h rings =
    (s k : ℕ) (x : Version) → Lives rings s k x Held → IsTop rings x.object (latest c.base h x.object) x.previous

-- what the previous link of a committed version is, by the version of the write before, whose time is t
pub record LinksBelow (rings : ℕ → Ring) (x : Version) (t : ℕ) : Type 0 where
  pub uncut : (link : ℕ) (y : Version) (note : CommitNote) → IsVersion rings x.object t link y note → note.cut ≡ false → x.previous ≡ link
  pub cut : (link : ℕ) (y : Version) (note : CommitNote) → IsVersion rings x.object t link y note → note.cut ≡ true → x.previous ≡ 0
  pub none : ((link : ℕ) (y : Version) (note : CommitNote) → ¬ (IsVersion rings x.object t link y note)) → (x.previous ≡ 0) ⊎ IsGone rings x.previous

-- commit-link: the previous link of a committed version names the version of the write before it, if that is live and wasn't cut
abbrev pub CommitLink : Config → List Entry → (ℕ → Ring) → Type 0
CommitLink c h rings =
    (s k : ℕ) (x : Version) (note : CommitNote) → Lives rings s k x (Committed note) → LinksBelow rings x (latest_at c.base h x.object (note.time - 1))

-- aborted-link: the previous link of an aborted version is 0, of a position that isn't live any more, or of a committed version of the same object
abbrev pub AbortedLink : (ℕ → Ring) → Type 0
AbortedLink rings =
    (s k : ℕ) (x : Version) (dead : Option ℕ) → Lives rings s k x (Aborted dead)
    → (x.previous ≡ 0)
    ⊎ (IsGone rings x.previous ⊎ ((y : Version) × (note : CommitNote) × Names rings x.previous y (Committed note) × (y.object ≡ x.object)))

-- present-master: where an object's top is 0, its master is the present state, and its last write isn't above any section's time
abbrev pub PresentMaster : Config → State → List Entry → (ℕ → ℕ → ℕ) → (ℕ → Option ℕ) → (ℕ → Ring) → Type 0
PresentMaster c start h master time rings =
    (o : ℕ) → NoneUncut rings o (latest c.base h o) → AreThe (master o) (words_of c start h (c.base + length h) o) × NotAboveAny (latest c.base h o) time

-- the master is the state before a version's commit, and the write before it isn't above any section's time
abbrev pub IsGrounded : Config → State → List Entry → (ℕ → ℕ → ℕ) → (ℕ → Option ℕ) → Version → CommitNote → Type 0
IsGrounded c start h master time x note =
    (x.previous ≡ 0) × AreThe (master x.object) (words_of c start h (note.time - 1) x.object)
    × NotAboveAny (latest_at c.base h x.object (note.time - 1)) time

-- chain-foot: under a committed version whose previous link names no live version, its time isn't above any section's, or it is grounded
abbrev pub ChainFoot : Config → State → List Entry → (ℕ → ℕ → ℕ) → (ℕ → Option ℕ) → (ℕ → Ring) → Type 0
ChainFoot c start h master time rings =
    (s k : ℕ) (x : Version) (note : CommitNote) → Lives rings s k x (Committed note) → ((y : Version) (st : WriteSetStatus) → ¬ (Names rings x.previous y st))
    → NotAboveAny note.time time ⊎ IsGrounded c start h master time x note
