use Rattle.std.specs.Prelude.{option_map}
use Rattle.std.proofs.Common.{◌≡◌, ℕ, Option, ap₂, ◌∙◌}
use Rattle.board_model.specs.declared.scenario.CallLine.{CallLine}
use Rattle.board_model.specs.Journal.{PlainAnswer}
use Rattle.mc_journal.specs.Entry.{plain_answer}
use Rattle.hop_relay.specs.declared.role.Role.TheVariants.{Last}
use Rattle.hop_relay.specs.declared.taker.Taker.{Taker}
use Rattle.hop_relay.specs.Places.{place_of_taker}
use Rattle.hop_relay.specs.Steps.{GoesOn}
use Rattle.hop_relay.proofs.GoesLemmas.{taker_goes, taker_takes, last_so, last_lines, fits_so, ends_so, todo_so, falls_so}
use Rattle.hop_relay.proofs.last.LastActor.next.Goals as goal

pub returns-clause-todo : goal.returns-clause-todo
returns-clause-todo c =
    let t : Taker = c.args.self.now.taker in
    let told : Option PlainAnswer = option_map (λ a. plain_answer a.now) c.args.told in
    let line : Option CallLine = c.line_after-line.result in
    let q : Taker = c.turn_to.new.self in
    let goes : GoesOn (Last t.domain t.most) (place_of_taker t) told line (place_of_taker q) = taker_goes (Last t.domain t.most) t c.line_after-line.new.self.taker q told line c.line_after-line.ensures.line c.turn_to.ensures.step c.line_after-line.ensures.opening c.turn_to.ensures.opening c.line_after-line.ensures.receives c.turn_to.ensures.receives in
    todo_so (Last t.domain t.most) (place_of_taker t) (place_of_taker q) told line goes t.most q.most (c.turn_to.ensures.most ∙ c.line_after-line.ensures.most) t.progress.plain (taker_takes (Last t.domain t.most) t told line c.line_after-line.ensures.line (last_so t told))

pub returns-clause-falls : goal.returns-clause-falls
returns-clause-falls c =
    let t : Taker = c.args.self.now.taker in
    let told : Option PlainAnswer = option_map (λ a. plain_answer a.now) c.args.told in
    let line : Option CallLine = c.line_after-line.result in
    let q : Taker = c.turn_to.new.self in
    let goes : GoesOn (Last t.domain t.most) (place_of_taker t) told line (place_of_taker q) = taker_goes (Last t.domain t.most) t c.line_after-line.new.self.taker q told line c.line_after-line.ensures.line c.turn_to.ensures.step c.line_after-line.ensures.opening c.turn_to.ensures.opening c.line_after-line.ensures.receives c.turn_to.ensures.receives in
    falls_so (Last t.domain t.most) (place_of_taker t) (place_of_taker q) told line goes t.most q.most (c.turn_to.ensures.most ∙ c.line_after-line.ensures.most) t.progress.plain (taker_takes (Last t.domain t.most) t told line c.line_after-line.ensures.line (last_so t told))

pub returns-clause-fits : goal.returns-clause-fits
returns-clause-fits c =
    let t : Taker = c.args.self.now.taker in
    let told : Option PlainAnswer = option_map (λ a. plain_answer a.now) c.args.told in
    let line : Option CallLine = c.line_after-line.result in
    let q : Taker = c.turn_to.new.self in
    let goes : GoesOn (Last t.domain t.most) (place_of_taker t) told line (place_of_taker q) = taker_goes (Last t.domain t.most) t c.line_after-line.new.self.taker q told line c.line_after-line.ensures.line c.turn_to.ensures.step c.line_after-line.ensures.opening c.turn_to.ensures.opening c.line_after-line.ensures.receives c.turn_to.ensures.receives in
    let same : Last q.domain q.most ≡ Last t.domain t.most = ap₂ (λ (d n : ℕ). Last d n) (c.turn_to.ensures.domain ∙ c.line_after-line.ensures.domain) (c.turn_to.ensures.most ∙ c.line_after-line.ensures.most) in
    fits_so (Last t.domain t.most) (Last q.domain q.most) same (place_of_taker t) (place_of_taker q) t.progress.asked.value told line c.requires.told goes q.progress.asked.value c.turn_to.ensures.asked

pub returns-clause-ends : goal.returns-clause-ends
returns-clause-ends c =
    let t : Taker = c.args.self.now.taker in
    let told : Option PlainAnswer = option_map (λ a. plain_answer a.now) c.args.told in
    let line : Option CallLine = c.line_after-line.result in
    let q : Taker = c.turn_to.new.self in
    let goes : GoesOn (Last t.domain t.most) (place_of_taker t) told line (place_of_taker q) = taker_goes (Last t.domain t.most) t c.line_after-line.new.self.taker q told line c.line_after-line.ensures.line c.turn_to.ensures.step c.line_after-line.ensures.opening c.turn_to.ensures.opening c.line_after-line.ensures.receives c.turn_to.ensures.receives in
    let same : Last q.domain q.most ≡ Last t.domain t.most = ap₂ (λ (d n : ℕ). Last d n) (c.turn_to.ensures.domain ∙ c.line_after-line.ensures.domain) (c.turn_to.ensures.most ∙ c.line_after-line.ensures.most) in
    ends_so (Last t.domain t.most) (Last q.domain q.most) same (place_of_taker t) (place_of_taker q) t.progress.asked.value told line c.requires.told goes

pub returns-clause-follows : goal.returns-clause-follows
returns-clause-follows c =
    let t : Taker = c.args.self.now.taker in
    let told : Option PlainAnswer = option_map (λ a. plain_answer a.now) c.args.told in
    let line : Option CallLine = c.line_after-line.result in
    let q : Taker = c.turn_to.new.self in
    let goes : GoesOn (Last t.domain t.most) (place_of_taker t) told line (place_of_taker q) = taker_goes (Last t.domain t.most) t c.line_after-line.new.self.taker q told line c.line_after-line.ensures.line c.turn_to.ensures.step c.line_after-line.ensures.opening c.turn_to.ensures.opening c.line_after-line.ensures.receives c.turn_to.ensures.receives in
    last_lines t (place_of_taker q) t.progress.asked.value told line c.args.self.now.low c.requires.told goes
