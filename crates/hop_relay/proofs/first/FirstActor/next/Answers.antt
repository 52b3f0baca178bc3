use Rattle.std.specs.Prelude.{option_map}
use Rattle.std.proofs.Common.{◌≡◌, ℕ, List, Option, map, ap, refl}
use Rattle.board_model.specs.declared.scenario.CallLine.{CallLine}
use Rattle.board_model.specs.Journal.{PlainAnswer}
use Rattle.mc_journal.specs.Entry.{plain_answer}
use Rattle.hop_relay.specs.declared.first.First.{First}
use Rattle.hop_relay.specs.declared.role.Role.TheVariants as role
use Rattle.hop_relay.specs.Places.{as_first, place_of_first}
use Rattle.hop_relay.specs.Steps.{GoesOn, Place}
use Rattle.hop_relay.proofs.FollowLemmas.{first_goes}
use Rattle.hop_relay.proofs.GoesLemmas.{first_on, first_place, fits_so, ends_so, todo_so, falls_so}
use Rattle.hop_relay.proofs.TodoLemmas.{first_takes}
use Rattle.hop_relay.proofs.first.FirstActor.next.Goals as goal

pub returns-clause-todo : goal.returns-clause-todo
returns-clause-todo c =
    let f : First = c.args.self.now in
    let told : Option PlainAnswer = option_map (λ a. plain_answer a.now) c.args.told in
    let line : Option CallLine = c.line_after-line.result in
    let q : Place = first_place c.turn_to.new.self c.line_after-line.new.self.packets in
    let goes : GoesOn (as_first f) (place_of_first f) told line q = first_on f c.line_after-line.new.self c.turn_to.new.self told line c.line_after-line.ensures.line c.turn_to.ensures.step c.line_after-line.ensures.opening c.turn_to.ensures.opening c.line_after-line.ensures.packets in
    todo_so (as_first f) (place_of_first f) q told line goes 0 0 refl f.progress.plain (first_takes (map (λ p. p.items) f.all.value.items) (map (λ p. p.items) f.packets) f.progress.step told)

pub returns-clause-falls : goal.returns-clause-falls
returns-clause-falls c =
    let f : First = c.args.self.now in
    let told : Option PlainAnswer = option_map (λ a. plain_answer a.now) c.args.told in
    let line : Option CallLine = c.line_after-line.result in
    let q : Place = first_place c.turn_to.new.self c.line_after-line.new.self.packets in
    let goes : GoesOn (as_first f) (place_of_first f) told line q = first_on f c.line_after-line.new.self c.turn_to.new.self told line c.line_after-line.ensures.line c.turn_to.ensures.step c.line_after-line.ensures.opening c.turn_to.ensures.opening c.line_after-line.ensures.packets in
    falls_so (as_first f) (place_of_first f) q told line goes 0 0 refl f.progress.plain (first_takes (map (λ p. p.items) f.all.value.items) (map (λ p. p.items) f.packets) f.progress.step told)

pub returns-clause-fits : goal.returns-clause-fits
returns-clause-fits c =
    let f : First = c.args.self.now in
    let told : Option PlainAnswer = option_map (λ a. plain_answer a.now) c.args.told in
    let line : Option CallLine = c.line_after-line.result in
    let q : Place = first_place c.turn_to.new.self c.line_after-line.new.self.packets in
    let goes : GoesOn (as_first f) (place_of_first f) told line q = first_on f c.line_after-line.new.self c.turn_to.new.self told line c.line_after-line.ensures.line c.turn_to.ensures.step c.line_after-line.ensures.opening c.turn_to.ensures.opening c.line_after-line.ensures.packets in
    let same : as_first c.line_after-line.new.self ≡ as_first f = ap (λ (ps : List (List ℕ)). role.First ps) c.line_after-line.ensures.all in
    fits_so (as_first f) (as_first c.line_after-line.new.self) same (place_of_first f) q f.progress.asked.value told line c.requires.told goes c.turn_to.new.self.asked.value c.turn_to.ensures.asked

pub returns-clause-ends : goal.returns-clause-ends
returns-clause-ends c =
    let f : First = c.args.self.now in
    let told : Option PlainAnswer = option_map (λ a. plain_answer a.now) c.args.told in
    let line : Option CallLine = c.line_after-line.result in
    let q : Place = first_place c.turn_to.new.self c.line_after-line.new.self.packets in
    let goes : GoesOn (as_first f) (place_of_first f) told line q = first_on f c.line_after-line.new.self c.turn_to.new.self told line c.line_after-line.ensures.line c.turn_to.ensures.step c.line_after-line.ensures.opening c.turn_to.ensures.opening c.line_after-line.ensures.packets in
    let same : as_first c.line_after-line.new.self ≡ as_first f = ap (λ (ps : List (List ℕ)). role.First ps) c.line_after-line.ensures.all in
    ends_so (as_first f) (as_first c.line_after-line.new.self) same (place_of_first f) q f.progress.asked.value told line c.requires.told goes

pub returns-clause-follows : goal.returns-clause-follows
returns-clause-follows c =
    let f : First = c.args.self.now in
    let told : Option PlainAnswer = option_map (λ a. plain_answer a.now) c.args.told in
    let line : Option CallLine = c.line_after-line.result in
    let q : Place = first_place c.turn_to.new.self c.line_after-line.new.self.packets in
    let goes : GoesOn (as_first f) (place_of_first f) told line q = first_on f c.line_after-line.new.self c.turn_to.new.self told line c.line_after-line.ensures.line c.turn_to.ensures.step c.line_after-line.ensures.opening c.turn_to.ensures.opening c.line_after-line.ensures.packets in
    first_goes (place_of_first f) f.progress.asked.value told line q c.requires.told (map (λ p. p.items) f.all.value.items) goes refl c.line_after-line.ensures.sends
