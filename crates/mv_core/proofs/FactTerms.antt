-- The facts of the rule, and what a pass knows, under one name.
pub use Rattle.mv_core.specs.HistoryFacts.{KnowsPast, History, BeginsWith, NamedBy}
pub use Rattle.mv_core.specs.SetFacts.{HoldsSlot, HoldsVersion, SlotWords, IsStored, HoldsBuild, stamp_of, Positions, IsNaming, UnstampedIsUnfinished}
pub use Rattle.mv_core.specs.SetFacts.{StampedAs, Stamps, IsHeldOrAborted, BelowIsStamped, Successors, CommitOf, InHeldSet, WriteSets, InSet}
pub use Rattle.mv_core.specs.SectionFacts.{IsWord, IsDone, HelpedWords, WasClock, IsNamedCommit, IsFound, NamedIs, MarkedAs, Marks, IsPastHelp}
pub use Rattle.mv_core.specs.SectionFacts.{LoadedWords, NamedCommit, OpenSection, FoundStamps, ScanIs, LockFreshness, StampedPastHelp, Grace}
pub use Rattle.mv_core.specs.ChainFacts.{HeadIsTop, HeldLink, LinksBelow, CommitLink, AbortedLink, PresentMaster, ChainFoot}
pub use Rattle.mv_core.specs.WalkFacts.{IsBeforeDeath, WalkerBeforeDeath, WalkerFalls, SucceededHasSuper, MasterServes, IsRightFor, MayStandAt}
pub use Rattle.mv_core.specs.WalkFacts.{StandsRight, WalkerPlace, WalkerKnowledge, WalkerLate, HasPassed, IsBelowPassed}
pub use Rattle.mv_core.specs.ReclaimFacts.{next_in, Deaths, DeathSeen, DeathsSeen, DeathAfterWrite, SuccessorFlag, WriteBacks, FreedIsOld, CutIsOld}
pub use Rattle.mv_core.specs.ReclaimFacts.{PositionsAndGrace, IsWrittenBack, death_in}
pub use Rattle.mv_core.specs.Rule.{IsNoted, IsThere, Seated, IsSeated, Ruled, Loads, IsKept, Facts, first_view, Stores, Swaps, Raises}
pub use Rattle.mv_core.specs.Known.{Known, KnownInDomain, RunsOn, IsTimed, IsBegun, KnownHeld, KnownSection, KnownCommit}
pub use Rattle.mv_core.specs.Chains.{SlotVersion, HangFrom, prev_of, AreWritesFrom, AreLatest, IsChain, IsLinked, lowest, time_before, last_link, IsLoose}
pub use Rattle.mv_core.specs.Chains.{LeadsBy, time_down, IsLater, IsUnderLater, IsRightLink, IsRightMaster, IsAbortedOver, GoesOn, ReachesLink}
pub use Rattle.mv_core.specs.Chains.{Reaches}
pub use Rattle.mv_core.specs.Frees.{ClockIsAfter, FreeingIs, FreesHold, FirstFree}
