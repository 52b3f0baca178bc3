use Rattle.std.proofs.Common.{◌≡◌, List, Option, Some, [], ◌∷◌, ◌++◌, rules, length, refl, sym, ap, subst, ◌∙◌, arith}
use Rattle.board_model.specs.declared.scenario.CallLine.{CallLine}
use Rattle.board_model.specs.Journal.{Line, PlainAnswer}
use Rattle.board_model.specs.Logs.{LoggedCall, answers_on, paired}
use Rattle.board_runner.specs.Acting.{Asks, HasRun, IsActing, log_at}
use Rattle.board_runner.proofs.ActingLemmas.{acting-asks, acting-counts, acting-first, acting-next, acting-own, answered-last, answered-told, none-run, one-more-logged, one-more-run}
use Rattle.board_runner.proofs.acting.run_actor.Goals as goal

pub loop-next-init : goal.loop-next-init
loop-next-init g c =
    let st = c.args.station in
    let empty : c.new-lines.result.items ≡ [] = c.new-lines.ensures.items in
    let none : log_at [] st ≡ [] = refl in
    record {
      ran = subst (λ (ls : List CallLine). HasRun st ls st) (sym empty) (none-run st c.requires.begins c.requires.empty);
      acting =
          subst (λ (ls : List CallLine). IsActing g.A.Actor c.args.actor (log_at ls st) c.in_ok-next.next c.first_line.new.actor) (sym empty)
          (acting-first g.A.Actor c.args.actor st.domain_number c.in_ok-next.next c.first_line.new.actor c.requires.ready c.in_ok-next.ensures);
      room = search rules;
    }

pub run_given_line-requires-clause-count : goal.run_given_line-requires-clause-count
run_given_line-requires-clause-count g c =
    let i = c.loop-next.invariant in
    acting-counts g.A.Actor c.args.actor c.args.station c.loop-next.station c.loop-next.lines.items c.in-Some.line c.loop-next.actor c.requires.few i.ran
    (subst (λ (o : Option CallLine). IsActing g.A.Actor c.args.actor (log_at c.loop-next.lines.items c.loop-next.station) o c.loop-next.actor) c.in-Some.is i.acting)

pub run_given_line-requires-clause-asks : goal.run_given_line-requires-clause-asks
run_given_line-requires-clause-asks g c =
    let log = log_at c.loop-next.lines.items c.loop-next.station in
    acting-asks g.A.Actor c.args.actor log c.in-Some.line c.loop-next.actor
    (subst (λ (o : Option CallLine). IsActing g.A.Actor c.args.actor log o c.loop-next.actor) c.in-Some.is c.loop-next.invariant.acting)

pub line_after-requires : goal.line_after-requires
line_after-requires g c =
    answered-told c.in-Some.line (g.A.Actor.asked c.loop-next.actor) c.loop-next.station c.run_given_line.new.station (c.loop-next.invariant.acting.asked ∙ c.in-Some.is) c.in_ok-run_given_line.ensures.answered

pub loop-next-preserved : goal.loop-next-preserved
loop-next-preserved g c =
    let a = g.A.Actor in
    let first = c.args.actor in
    let st = c.args.station in
    let old = c.loop-next.station in
    let new = c.run_given_line.new.station in
    let lines = c.loop-next.lines.items in
    let line = c.in-Some.line in
    let i = c.loop-next.invariant in
    let done = c.in_ok-run_given_line.ensures in
    let acting = subst (λ (o : Option CallLine). IsActing a first (log_at lines old) o c.loop-next.actor) c.in-Some.is i.acting in
    let own : line.domain ≡ st.domain_number = acting-own a first (log_at lines old) line c.loop-next.actor acting ∙ c.requires.ready.own in
    let next = c.in_ok-next-2.next in
    let now = c.line_after.new.actor in
    let asks = subst (λ (o : Option PlainAnswer). Asks a c.loop-next.actor o next now) (answered-last line.call old new done.answered) c.in_ok-next-2.ensures in
    let ran = one-more-run st old new lines line i.ran own done.run done.counts done.answered in
    record {
      ran = subst (λ (ls : List CallLine). HasRun st ls new) (sym done.lines) ran;
      acting =
          subst (λ (ls : List CallLine). IsActing a first (log_at ls new) next now) (sym done.lines)
          (subst (λ (log : List LoggedCall). IsActing a first log next now) (sym (one-more-logged st old new lines line i.ran done.answered))
          (acting-next a first (log_at lines old) line c.loop-next.actor acting done.answered.answer next now asks));
      room = search rules;
    }

pub returns : goal.returns
returns g c =
    let i = c.loop-next.invariant in
    record {
      ran = i.ran;
      acted = subst (λ (o : Option CallLine). IsActing g.A.Actor c.args.actor (log_at c.loop-next.lines.items c.loop-next.station) o c.loop-next.actor) c.in_default-next.is i.acting;
    }
