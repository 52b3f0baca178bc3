use Rattle.std.specs.Prelude.{option_map}
use Rattle.std.proofs.Common.{Option}
use Rattle.board_model.specs.Journal.{PlainAnswer}
use Rattle.mc_journal.specs.Entry.{plain_answer}
use Rattle.call_actor.proofs.ActorGoes.{server_follows}
use Rattle.call_actor.proofs.LeftLemmas.{server_no_more, server_fewer}
use Rattle.call_actor.proofs.ServerGoes.{within_after, fits_after, ends_after}
use Rattle.call_actor.proofs.server.ServerActor.next.Goals as goal

pub invariant_of-self-2 : goal.invariant_of-self-2
invariant_of-self-2 c =
    let m = c.args.self.now in
    let told : Option PlainAnswer = option_map (λ a. plain_answer a.now) c.args.told in
    record {
      few = m.few;
      repeats = m.repeats;
      calls = m.calls;
      within = within_after m.role m.few m.place m.desk m.asked.value told c.in_ok-step.step.place c.follow.new.desk c.in_ok-step.step.line c.in_ok-step.ensures.step m.within;
    }

pub returns-clause-todo : goal.returns-clause-todo
returns-clause-todo c =
    let m = c.args.self.now in
    let told : Option PlainAnswer = option_map (λ a. plain_answer a.now) c.args.told in
    server_no_more m.role m.place m.desk told c.in_ok-step.step.place c.follow.new.desk c.in_ok-step.step.line c.in_ok-step.ensures.step m.within

pub returns-clause-falls : goal.returns-clause-falls
returns-clause-falls c =
    let m = c.args.self.now in
    let told : Option PlainAnswer = option_map (λ a. plain_answer a.now) c.args.told in
    server_fewer m.role m.place m.desk told c.in_ok-step.step.place c.follow.new.desk c.in_ok-step.step.line c.in_ok-step.ensures.step m.within

pub returns-clause-fits : goal.returns-clause-fits
returns-clause-fits c =
    let m = c.args.self.now in
    let told : Option PlainAnswer = option_map (λ a. plain_answer a.now) c.args.told in
    fits_after m.role m.few m.place m.desk m.asked.value told c.in_ok-step.step.place c.follow.new.desk c.in_ok-step.step.line c.in_ok-step.ensures.step m.within c.requires.told c.of.result.value c.of.ensures

pub returns-clause-ends : goal.returns-clause-ends
returns-clause-ends c =
    let m = c.args.self.now in
    let told : Option PlainAnswer = option_map (λ a. plain_answer a.now) c.args.told in
    ends_after m.role m.few m.place m.desk m.asked.value told c.in_ok-step.step.place c.follow.new.desk c.in_ok-step.step.line c.in_ok-step.ensures.step m.within c.requires.told

pub returns-clause-follows : goal.returns-clause-follows
returns-clause-follows c =
    let m = c.args.self.now in
    let told : Option PlainAnswer = option_map (λ a. plain_answer a.now) c.args.told in
    server_follows m.role m.few m.place m.desk m.asked.value told c.in_ok-step.step.place c.follow.new.desk c.in_ok-step.step.line c.in_ok-step.ensures.step m.within c.requires.told
