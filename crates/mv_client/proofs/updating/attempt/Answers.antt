use Rattle.std.proofs.Common.{◌-◌, ap, ◌∙◌, refl, subst, Ok}
use Rattle.mv_history.specs.Meaning.{Seat}
use Rattle.mv_history.specs.Trail.{commit_exchanges, IsOneWon}
use Rattle.mv_history.specs.Calls.{call_trail, Leaves, Commits}
use Rattle.mv_client.proofs.Filled.{opened_by, shown_as, filled_fit}
use Rattle.mv_client.proofs.updating.attempt.Goals as goal

pub fill-requires : goal.fill-requires
fill-requires g c =
    let o = opened_by _ _ _ _ c.prepare.ensures.prepares (c.prepare.ensures.enough c.in-Enough.is) c.begin-section.ensures.enters
    c.begin-section.ensures.snapshot c.begin-section.ensures.objects in
    c.requires.callable c.begin-section.result o _ refl

pub returns-in-Short : goal.returns-in-Short
returns-in-Short g c =
    let s = c.prepare.ensures.short c.in-Short.holder c.in-Short.is in
    record { may = s.0; prepares = c.prepare.ensures.prepares; short = s.1; why = s.2 }

pub try_commit-requires : goal.try_commit-requires
try_commit-requires g c =
    let o = opened_by _ _ _ _ c.prepare.ensures.prepares (c.prepare.ensures.enough c.in-Enough.is) c.begin-section.ensures.enters
    c.begin-section.ensures.snapshot c.begin-section.ensures.objects in
    let e = c.in-Ok-Change.is ∙ ap Ok c.in-Ok-Change.field-0-is in
    let f = c.requires.fills c.begin-section.result c.fill.new.arg2 c.fill.result o (shown_as g.F.Fn c.args.fill.now _ _ _ _ c.fill.ensures refl) in
    let fit = filled_fit _ _ _ c.fill.result c.in-Ok-Change.tag c.in-Ok-Change.reply e f in
    record { some = fit.0; fit = fit.1 }

pub returns-in-Done : goal.returns-in-Done
returns-in-Done g c =
    let o = opened_by _ _ _ _ c.prepare.ensures.prepares (c.prepare.ensures.enough c.in-Enough.is) c.begin-section.ensures.enters
    c.begin-section.ensures.snapshot c.begin-section.ensures.objects in
    let e = c.in-Ok-Change.is ∙ ap Ok c.in-Ok-Change.field-0-is in
    let f = c.requires.fills c.begin-section.result c.fill.new.arg2 c.fill.result o (shown_as g.F.Fn c.args.fill.now _ _ _ _ c.fill.ensures refl) in
    record {
      tag = c.in-Ok-Change.tag;
      left = c.fill.new.arg2;
      filled = record {
        prepared = g.S.Store.seat_of c.prepare.new.self;
        prepares = c.prepare.ensures.prepares;
        entered = c.begin-section.result;
        enters = c.begin-section.ensures.enters;
        took = c.begin-section.ensures.took;
        gives_is = shown_as g.F.Fn c.args.fill.now _ _ _ _ c.fill.ensures e;
        goes_on = f.goes_on;
      };
      commits = subst (λ (s : Seat). Commits (g.S.Open.Section.section c.fill.new.arg2) c.in-Ok-Change.tag s c.in-Done.time) (g.met.S.Store.same_seat _)
          c.in-Done.ensures.done.0;
      loaded = subst (λ (s : Seat). g.S.Open.Section.loaded (g.S.Open.Section.section c.fill.new.arg2) s (c.in-Done.time - 1))
          (g.met.S.Store.same_seat _) c.in-Done.ensures.done.1;
      won = subst (λ (s : Seat). g.S.Open.Section.has_trail
          → IsOneWon (commit_exchanges (call_trail (g.S.Open.Section.section c.fill.new.arg2).seat s))) (g.met.S.Store.same_seat _) c.in-Done.ensures.one_won;
    }

pub returns-in-Again : goal.returns-in-Again
returns-in-Again g c =
    let o = opened_by _ _ _ _ c.prepare.ensures.prepares (c.prepare.ensures.enough c.in-Enough.is) c.begin-section.ensures.enters
    c.begin-section.ensures.snapshot c.begin-section.ensures.objects in
    let e = c.in-Ok-Change.is ∙ ap Ok c.in-Ok-Change.field-0-is in
    let f = c.requires.fills c.begin-section.result c.fill.new.arg2 c.fill.result o (shown_as g.F.Fn c.args.fill.now _ _ _ _ c.fill.ensures refl) in
    let a = c.in-Again.ensures.again in (
      a.0,
      record {
        tag = c.in-Ok-Change.tag;
        reply = c.in-Ok-Change.reply;
        left = c.fill.new.arg2;
        filled = record {
          prepared = g.S.Store.seat_of c.prepare.new.self;
          prepares = c.prepare.ensures.prepares;
          entered = c.begin-section.result;
          enters = c.begin-section.ensures.enters;
          took = c.begin-section.ensures.took;
          gives_is = shown_as g.F.Fn c.args.fill.now _ _ _ _ c.fill.ensures e;
          goes_on = f.goes_on;
        };
        after = c.in-Again.section;
        as_before = a.1;
        overtakes = a.2;
        lost = c.in-Again.ensures.one_lost;
        leaves = subst (λ (s : Seat). Leaves (g.S.Open.Section.section c.in-Again.section) s) (g.met.S.Store.same_seat _) c.abort.ensures;
      },
    )

pub returns-in-End : goal.returns-in-End
returns-in-End g c =
    let o = opened_by _ _ _ _ c.prepare.ensures.prepares (c.prepare.ensures.enough c.in-Enough.is) c.begin-section.ensures.enters
    c.begin-section.ensures.snapshot c.begin-section.ensures.objects in
    let e = c.in-Ok-Change.is ∙ ap Ok c.in-Ok-Change.field-0-is in
    let f = c.requires.fills c.begin-section.result c.fill.new.arg2 c.fill.result o (shown_as g.F.Fn c.args.fill.now _ _ _ _ c.fill.ensures refl) in
    let a = c.in-End.ensures.end in
    record {
      tag = c.in-Ok-Change.tag;
      reply = c.in-Ok-Change.reply;
      left = c.fill.new.arg2;
      filled = record {
        prepared = g.S.Store.seat_of c.prepare.new.self;
        prepares = c.prepare.ensures.prepares;
        entered = c.begin-section.result;
        enters = c.begin-section.ensures.enters;
        took = c.begin-section.ensures.took;
        gives_is = shown_as g.F.Fn c.args.fill.now _ _ _ _ c.fill.ensures e;
        goes_on = f.goes_on;
      };
      after = c.in-End.section;
      as_before = a.0;
      worn = a.1;
      leaves = subst (λ (s : Seat). Leaves (g.S.Open.Section.section c.in-End.section) s) (g.met.S.Store.same_seat _) c.abort-in-End.ensures;
    }

pub returns-in-Ok-Settled : goal.returns-in-Ok-Settled
returns-in-Ok-Settled g c =
    let o = opened_by _ _ _ _ c.prepare.ensures.prepares (c.prepare.ensures.enough c.in-Enough.is) c.begin-section.ensures.enters
    c.begin-section.ensures.snapshot c.begin-section.ensures.objects in
    let f = c.requires.fills c.begin-section.result c.fill.new.arg2 c.fill.result o (shown_as g.F.Fn c.args.fill.now _ _ _ _ c.fill.ensures refl) in
    record {
      left = c.fill.new.arg2;
      filled = record {
        prepared = g.S.Store.seat_of c.prepare.new.self;
        prepares = c.prepare.ensures.prepares;
        entered = c.begin-section.result;
        enters = c.begin-section.ensures.enters;
        took = c.begin-section.ensures.took;
        gives_is = shown_as g.F.Fn c.args.fill.now _ _ _ _ c.fill.ensures (c.in-Ok-Settled.is ∙ ap Ok c.in-Ok-Settled.field-0-is);
        goes_on = f.goes_on;
      };
      time_is = c.at.ensures;
      leaves = subst (λ (s : Seat). Leaves (g.S.Open.Section.section c.fill.new.arg2) s) (g.met.S.Store.same_seat _) c.abort-in-Ok-Settled.ensures;
    }

pub returns-in-Err : goal.returns-in-Err
returns-in-Err g c =
    let o = opened_by _ _ _ _ c.prepare.ensures.prepares (c.prepare.ensures.enough c.in-Enough.is) c.begin-section.ensures.enters
    c.begin-section.ensures.snapshot c.begin-section.ensures.objects in
    let f = c.requires.fills c.begin-section.result c.fill.new.arg2 c.fill.result o (shown_as g.F.Fn c.args.fill.now _ _ _ _ c.fill.ensures refl) in
    record {
      left = c.fill.new.arg2;
      filled = record {
        prepared = g.S.Store.seat_of c.prepare.new.self;
        prepares = c.prepare.ensures.prepares;
        entered = c.begin-section.result;
        enters = c.begin-section.ensures.enters;
        took = c.begin-section.ensures.took;
        gives_is = shown_as g.F.Fn c.args.fill.now _ _ _ _ c.fill.ensures c.in-Err.is;
        goes_on = f.goes_on;
      };
      leaves = subst (λ (s : Seat). Leaves (g.S.Open.Section.section c.fill.new.arg2) s) (g.met.S.Store.same_seat _) c.abort-in-Err.ensures;
    }
