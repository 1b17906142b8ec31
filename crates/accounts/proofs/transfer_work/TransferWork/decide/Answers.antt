use Rattle.accounts.proofs.Terms.{ap, ◌∙◌, arith, State, balance}
use Rattle.accounts.specs.declared.layout.Account.{Account}
use Rattle.accounts.proofs.Sections.{within-read, gain-fits}
use Rattle.accounts.proofs.Finding.{planned}
use Rattle.accounts.proofs.transfer_work.TransferWork.decide.Goals as goal

pub read_record-payer-requires-clause-in_range : goal.read_record-payer-requires-clause-in_range
read_record-payer-requires-clause-in_range g c =
    let here = c.requires.here.1 in within-read _ _ _ here.state_is here.lawful c.requires.accepts.from_is

pub read_record-payee-requires-clause-in_range : goal.read_record-payee-requires-clause-in_range
read_record-payee-requires-clause-in_range g c =
    let here = c.requires.here.1 in
    within-read _ _ _ (g.met.V.View.same_state _ _ c.read_record-payer.ensures.as_before ∙ here.state_is) here.lawful c.requires.accepts.to_is

pub overflow_add-gained : goal.overflow_add-gained
overflow_add-gained g c =
    let here = c.requires.here.1 in
    let between = c.requires.accepts in
    let same = g.met.V.View.same_state _ _ c.read_record-payer.ensures.as_before in
    let fits = gain-fits _ _ c.args.self.now.from c.args.self.now.to c.args.self.now.amount _ _ here.state_is here.own here.lawful
    between.from_is between.to_is between.other (ap (λ (a : Account). a.balance) c.read_record-payer.ensures.record)
    (ap (λ (a : Account). a.balance) c.read_record-payee.ensures.record ∙ ap (λ (u : State). balance u c.args.self.now.to) same)
    c.if-balance-self.false in
    omega (arith, fits)

pub returns-clause-found : goal.returns-clause-found
returns-clause-found g c =
    let here = c.requires.here.1 in
    let between = c.requires.accepts in
    let same = g.met.V.View.same_state _ _ c.read_record-payer.ensures.as_before in
    let has = ap (λ (a : Account). a.balance) c.read_record-payer.ensures.record in (
      rw (← has) c.if-balance-self.false,
      planned (g.V.View.state c.args.view) c.args.self.now.from c.args.self.now.to c.args.self.now.amount _ _ _ _
          (within-read _ _ _ here.state_is here.lawful between.from_is) (within-read _ _ _ here.state_is here.lawful between.to_is)
          between.other between.some has
          (ap (λ (a : Account). a.balance) c.read_record-payee.ensures.record ∙ ap (λ (u : State). balance u c.args.self.now.to) same)
          c.if-balance-self.false c.to_words.ensures.words c.to_words-2.ensures.words,
    )
