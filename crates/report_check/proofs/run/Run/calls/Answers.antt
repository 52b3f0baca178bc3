use Rattle.std.proofs.Common.{Option, IfSome, option_map, sym, ap, subst, ◌∙◌, append-nil}
use Rattle.report_replay.specs.Effects.{HasOwnAddresses}
use Rattle.report_check.specs.NamedStates.{GoesOn}
use Rattle.report_check.specs.Runs.{IsNext, seen}
use Rattle.report_check.specs.declared.next_call.NextCall.{NextCall}
use Rattle.report_check.proofs.RunSteps.{called-deeds, called-shown, none-called, state-seen, unfound}
use Rattle.report_check.proofs.run.Run.calls.Goals as goal

pub make_call-requires : goal.make_call-requires
make_call-requires g c =
    let old = c.args.self.now in (
      c.requires.0.labels,
      (
        sym (ap (option_map (λ (n : NextCall). n.line.now)) (sym c.in-Some.is) ∙ c.next_call-next.ensures.line),
        (subst (λ (o : Option NextCall). IfSome o (λ (n : NextCall). IsNext n (seen old g.r.labels))) c.in-Some.is c.next_call-next.ensures.call, subst HasOwnAddresses (sym (state-seen old g.r c.requires.0)) c.requires.1.1.1.1.0),
      ),
    )

pub returns-in_ok-make_call-clause-run : goal.returns-in_ok-make_call-clause-run
returns-in_ok-make_call-clause-run g c k a is =
    let old = c.args.self.now in
    let next = sym (ap (option_map (λ (n : NextCall). n.line.now)) (sym c.in-Some.is) ∙ c.next_call-next.ensures.line) in
    record {
      at = called-shown old c.make_call.new.self g.r c.in-Some.next.line.now k a c.requires.0 next c.in_ok-make_call.ensures.labels (c.in_ok-make_call.ensures.run k a);
      deeds = subst (GoesOn old.state c.make_call.new.self.state) (called-deeds old g.r c.in-Some.next.line.now a c.requires.0 next ∙ sym (append-nil _)) (c.in_ok-make_call.ensures.deeds a);
    }

pub returns-in_default-clause-run : goal.returns-in_default-clause-run
returns-in_default-clause-run g c k a is =
    none-called c.args.self.now g.r c.args.lines.now.texts c.requires.0 (sym (ap (option_map (λ (n : NextCall). n.line.now)) c.in_default.is) ∙ c.next_call-next.ensures.line) c.requires.1.1.1.0 (sym c.in_ok-place.ensures ∙ unfound c.in_ok-place.place c.if-is_some.ensures)
