use Rattle.std.specs.Prelude.{option_map}
use Rattle.std.proofs.Common.{Option}
use Rattle.board_model.specs.Journal.{PlainAnswer}
use Rattle.mc_journal.specs.Entry.{plain_answer}
use Rattle.call_actor.proofs.ActorGoes.{client_follows}
use Rattle.call_actor.proofs.ClientGoes.{within_after, fits_after, ends_after}
use Rattle.call_actor.proofs.LeftLemmas.{client_no_more, client_fewer}
use Rattle.call_actor.proofs.client.ClientActor.next.Goals as goal

pub invariant_of-self-2 : goal.invariant_of-self-2
invariant_of-self-2 c =
    let m = c.args.self.now in
    let told : Option PlainAnswer = option_map (λ a. plain_answer a.now) c.args.told in
    record { low = m.low; some = m.some; repeats = m.repeats; cells = m.cells; within = within_after m.task m.some m.place m.first m.gots.items m.asked.value told c.in_ok-going.going c.in_ok-going.ensures m.within }

pub returns-clause-todo : goal.returns-clause-todo
returns-clause-todo c =
    let m = c.args.self.now in
    let told : Option PlainAnswer = option_map (λ a. plain_answer a.now) c.args.told in
    client_no_more m.task m.some m.repeats m.place m.first told c.in_ok-going.going c.in_ok-going.ensures m.within

pub returns-clause-falls : goal.returns-clause-falls
returns-clause-falls c =
    let m = c.args.self.now in
    let told : Option PlainAnswer = option_map (λ a. plain_answer a.now) c.args.told in
    client_fewer m.task m.some m.repeats m.place m.first told c.in_ok-going.going c.in_ok-going.ensures m.within

pub returns-clause-fits : goal.returns-clause-fits
returns-clause-fits c =
    let m = c.args.self.now in
    let told : Option PlainAnswer = option_map (λ a. plain_answer a.now) c.args.told in
    fits_after m.task m.some m.place m.first m.gots.items m.asked.value told c.in_ok-going.going c.in_ok-going.ensures m.within c.requires.told c.note.new.gots.items c.in_ok-note.ensures c.of.result.value c.of.ensures

pub returns-clause-ends : goal.returns-clause-ends
returns-clause-ends c =
    let m = c.args.self.now in
    let told : Option PlainAnswer = option_map (λ a. plain_answer a.now) c.args.told in
    ends_after m.task m.some m.place m.first m.gots.items m.asked.value told c.in_ok-going.going c.in_ok-going.ensures m.within c.requires.told

pub returns-clause-follows : goal.returns-clause-follows
returns-clause-follows c =
    let m = c.args.self.now in
    let told : Option PlainAnswer = option_map (λ a. plain_answer a.now) c.args.told in
    client_follows m.task m.low m.some m.cells m.place m.first m.gots.items m.asked.value told c.in_ok-going.going c.in_ok-going.ensures m.within c.requires.told
