use Rattle.std.proofs.Common.{◌≡◌, ◌≤◌, length, Result, Ok, Err, ap}
use Rattle.outer_io.specs.declared.source.ReadFault.{ReadFault}
use Rattle.outer_io.specs.declared.source.ReadFault.TheVariants.{Failed}
use Rattle.scenario_cli.specs.Words.{limit_of}
use Rattle.scenario_cli.proofs.Answering.{read-answers, read-ends, fault-answers, fault-ends}
use Rattle.scenario_cli.proofs.top.with_input.Goals as goal

ok-differs : {T : Type 0} (v : T) → ◌≡◌ {A = Result T ReadFault} (Ok v) (Err Failed) → ⊥
ok-differs v e = absurd cc

fault-is : {T : Type 0} (f g : ReadFault) → ◌≡◌ {A = Result T ReadFault} (Err f) (Err g) → f ≡ g
fault-is f g e = cc

pub returns-in-Ok-clause-answers : goal.returns-in-Ok-clause-answers
returns-in-Ok-clause-answers g c =
    let bytes = rw (← c.deref.ensures.value) at c.in-Ok.ensures.bytes in
    let within : length c.deref.result.now ≤ limit_of c.args.form = rw c.limit.ensures at (rw (← c.deref.ensures.value) at c.in-Ok.ensures.within) in
    read-answers g.S.Source g.K.Sink c.args.form c.with_text.result _ _ _ _ c.deref.result.now bytes c.in-Ok.ensures.end within c.in-Ok.ensures.none_after_end c.with_text.ensures

pub returns-in-Ok-clause-ends : goal.returns-in-Ok-clause-ends
returns-in-Ok-clause-ends g c =
    let bytes = rw (← c.deref.ensures.value) at c.in-Ok.ensures.bytes in
    let within : length c.deref.result.now ≤ limit_of c.args.form = rw c.limit.ensures at (rw (← c.deref.ensures.value) at c.in-Ok.ensures.within) in
    read-ends g.S.Source g.K.Sink c.args.form c.with_text.result _ _ _ _ c.deref.result.now bytes c.in-Ok.ensures.end within c.in-Ok.ensures.none_after_end c.with_text.ensures (c.in-Ok.ensures.no_fault (ok-differs _))

pub returns-in-Err-clause-answers : goal.returns-in-Err-clause-answers
returns-in-Err-clause-answers g c =
    rw c.after_read.ensures (fault-answers g.S.Source g.K.Sink c.args.form _ _ _ c.in-Err.fault (λ e. rw c.limit.ensures at (c.in-Err.ensures.few_reads_at_err (ap Err e))) (λ e. rw c.limit.ensures at (c.in-Err.ensures.too_long (ap Err e))))

pub returns-in-Err-clause-ends : goal.returns-in-Err-clause-ends
returns-in-Err-clause-ends g c =
    rw c.after_read.ensures (fault-ends g.S.Source g.K.Sink c.args.form _ _ _ c.in-Err.fault (λ e. c.in-Err.ensures.failed (ap Err e)) (λ never e. c.in-Err.ensures.sound never (ap Err e)) (λ differs. c.in-Err.ensures.no_fault (λ e. differs (fault-is _ _ e))) c.in-Err.ensures.later)
