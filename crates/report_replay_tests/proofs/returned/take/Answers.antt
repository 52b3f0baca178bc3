use Rattle.std.proofs.Common.{Some, ◌≡◌, IfOk, Ok, Err, Result, sym, subst}
use Rattle.mc_base.specs.declared.fate.Fate.{Fate}
use Rattle.board_model.specs.Deeds.{Deed, after_deed, happens_by, takes}
use Rattle.board_model.specs.State.{DomainState}
use Rattle.board_model.proofs.StateEnds.{Ends, ends-all}
use Rattle.report_replay_tests.proofs.returned.take.Goals as goal

kept : {E : Type 0} (s t : DomainState) (d : Fate → Deed) (r : Result Fate E) → Ends s → IfOk r (λ word. t ≡ after_deed s (d word)) → IfOk r (λ word. Ends t)
kept s t d (Err e) ends is = tt
kept s t d (Ok word) ends is = subst Ends (sym is) (ends-all s (happens_by s (d word)) ends)

pub returns : goal.returns
returns c = kept c.args.state.now c.take.new.self (λ word. takes 1 (Some c.args.name) c.args.frame.now word) c.take.result c.requires c.take.ensures.state
