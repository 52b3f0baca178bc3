use Rattle.std.specs.Prelude.{option_map}
use Rattle.std.proofs.Common.{◌≡◌, ℕ, Option, ap₂, ◌∙◌}
use Rattle.board_model.specs.declared.scenario.CallLine.{CallLine}
use Rattle.board_model.specs.Journal.{PlainAnswer}
use Rattle.mc_journal.specs.Entry.{plain_answer}
use Rattle.hop_relay.specs.declared.role.Role.TheVariants.{Middle}
use Rattle.hop_relay.specs.declared.taker.Taker.{Taker}
use Rattle.hop_relay.specs.Places.{place_of_taker}
use Rattle.hop_relay.specs.Steps.{GoesOn}
use Rattle.hop_relay.proofs.GoesLemmas.{taker_goes, taker_takes, taker_within, middle_so, middle_lines, fits_so, ends_so, todo_so, falls_so}
use Rattle.hop_relay.proofs.middle.MiddleActor.next.Goals as goal

pub turn_to-requires-clause-within : goal.turn_to-requires-clause-within
turn_to-requires-clause-within c =
    let t : Taker = c.args.self.now.taker in
    let told : Option PlainAnswer = option_map (λ a. plain_answer a.now) c.args.told in
    let line : Option CallLine = c.in_ok-line.line in
    (taker_within (Middle t.domain t.most) t told line c.in_ok-line.ensures.line (middle_so t told) c.line_after.new.self.taker c.in_ok-line.ensures.most c.in_ok-line.ensures.receives).few

pub returns-clause-todo : goal.returns-clause-todo
returns-clause-todo c =
    let t : Taker = c.args.self.now.taker in
    let told : Option PlainAnswer = option_map (λ a. plain_answer a.now) c.args.told in
    let line : Option CallLine = c.in_ok-line.line in
    let q : Taker = c.turn_to.new.self in
    let goes : GoesOn (Middle t.domain t.most) (place_of_taker t) told line (place_of_taker q) = taker_goes (Middle t.domain t.most) t c.line_after.new.self.taker q told line c.in_ok-line.ensures.line c.turn_to.ensures.step c.in_ok-line.ensures.opening c.turn_to.ensures.opening c.in_ok-line.ensures.receives c.turn_to.ensures.receives in
    todo_so (Middle t.domain t.most) (place_of_taker t) (place_of_taker q) told line goes t.most q.most (c.turn_to.ensures.most ∙ c.in_ok-line.ensures.most) t.progress.plain (taker_takes (Middle t.domain t.most) t told line c.in_ok-line.ensures.line (middle_so t told))

pub returns-clause-falls : goal.returns-clause-falls
returns-clause-falls c =
    let t : Taker = c.args.self.now.taker in
    let told : Option PlainAnswer = option_map (λ a. plain_answer a.now) c.args.told in
    let line : Option CallLine = c.in_ok-line.line in
    let q : Taker = c.turn_to.new.self in
    let goes : GoesOn (Middle t.domain t.most) (place_of_taker t) told line (place_of_taker q) = taker_goes (Middle t.domain t.most) t c.line_after.new.self.taker q told line c.in_ok-line.ensures.line c.turn_to.ensures.step c.in_ok-line.ensures.opening c.turn_to.ensures.opening c.in_ok-line.ensures.receives c.turn_to.ensures.receives in
    falls_so (Middle t.domain t.most) (place_of_taker t) (place_of_taker q) told line goes t.most q.most (c.turn_to.ensures.most ∙ c.in_ok-line.ensures.most) t.progress.plain (taker_takes (Middle t.domain t.most) t told line c.in_ok-line.ensures.line (middle_so t told))

pub returns-clause-fits : goal.returns-clause-fits
returns-clause-fits c =
    let t : Taker = c.args.self.now.taker in
    let told : Option PlainAnswer = option_map (λ a. plain_answer a.now) c.args.told in
    let line : Option CallLine = c.in_ok-line.line in
    let q : Taker = c.turn_to.new.self in
    let goes : GoesOn (Middle t.domain t.most) (place_of_taker t) told line (place_of_taker q) = taker_goes (Middle t.domain t.most) t c.line_after.new.self.taker q told line c.in_ok-line.ensures.line c.turn_to.ensures.step c.in_ok-line.ensures.opening c.turn_to.ensures.opening c.in_ok-line.ensures.receives c.turn_to.ensures.receives in
    let same : Middle q.domain q.most ≡ Middle t.domain t.most = ap₂ (λ (d n : ℕ). Middle d n) (c.turn_to.ensures.domain ∙ c.in_ok-line.ensures.domain) (c.turn_to.ensures.most ∙ c.in_ok-line.ensures.most) in
    fits_so (Middle t.domain t.most) (Middle q.domain q.most) same (place_of_taker t) (place_of_taker q) t.progress.asked.value told line c.requires.told goes q.progress.asked.value c.turn_to.ensures.asked

pub returns-clause-ends : goal.returns-clause-ends
returns-clause-ends c =
    let t : Taker = c.args.self.now.taker in
    let told : Option PlainAnswer = option_map (λ a. plain_answer a.now) c.args.told in
    let line : Option CallLine = c.in_ok-line.line in
    let q : Taker = c.turn_to.new.self in
    let goes : GoesOn (Middle t.domain t.most) (place_of_taker t) told line (place_of_taker q) = taker_goes (Middle t.domain t.most) t c.line_after.new.self.taker q told line c.in_ok-line.ensures.line c.turn_to.ensures.step c.in_ok-line.ensures.opening c.turn_to.ensures.opening c.in_ok-line.ensures.receives c.turn_to.ensures.receives in
    let same : Middle q.domain q.most ≡ Middle t.domain t.most = ap₂ (λ (d n : ℕ). Middle d n) (c.turn_to.ensures.domain ∙ c.in_ok-line.ensures.domain) (c.turn_to.ensures.most ∙ c.in_ok-line.ensures.most) in
    ends_so (Middle t.domain t.most) (Middle q.domain q.most) same (place_of_taker t) (place_of_taker q) t.progress.asked.value told line c.requires.told goes

pub returns-clause-follows : goal.returns-clause-follows
returns-clause-follows c =
    let t : Taker = c.args.self.now.taker in
    let told : Option PlainAnswer = option_map (λ a. plain_answer a.now) c.args.told in
    let line : Option CallLine = c.in_ok-line.line in
    let q : Taker = c.turn_to.new.self in
    let goes : GoesOn (Middle t.domain t.most) (place_of_taker t) told line (place_of_taker q) = taker_goes (Middle t.domain t.most) t c.line_after.new.self.taker q told line c.in_ok-line.ensures.line c.turn_to.ensures.step c.in_ok-line.ensures.opening c.turn_to.ensures.opening c.in_ok-line.ensures.receives c.turn_to.ensures.receives in
    middle_lines t (place_of_taker q) t.progress.asked.value told line c.args.self.now.low c.requires.told goes c.in_ok-line.ensures.sends
