use Rattle.std.proofs.Common.{ℕ, List, map, IfOk, Result, Ok, Err, ap, sym, subst, ◌∙◌, [], ◌∷◌, ◌++◌}
use Rattle.mc_base.specs.Letter.{carried}
use Rattle.mc_base.specs.Reading.{says}
use Rattle.name_service.specs.Said.{reading_of}
use Rattle.board_model.specs.Change.{held_as}
use Rattle.board_model.specs.State.{Part}
use Rattle.report_replay.specs.Coming.{SaysSo}
use Rattle.report_replay.specs.Dealt.{Deals}
use Rattle.report_replay.specs.Ends.{came_in}
use Rattle.report_replay.specs.Read.{coming_read}
use Rattle.report_replay.specs.ShortLetters.{IsShortReading}
use Rattle.report_replay.proofs.ShortLetters.{short_reading}
use Rattle.report_replay.proofs.TakenWhole.{Took, took-alone, took-held, took-whole}
use Rattle.report_replay.proofs.state.State.take.Goals as goal

if_map : {A E : Type 0} {P Q : A → Type 0} (r : Result A E) → ((a : A) → P a → Q a) → IfOk r P → IfOk r Q
if_map (Ok a) f p = f a p
if_map (Err e) f p = tt

pub deal-requires : goal.deal-requires
deal-requires c =
    let so = subst (λ x. SaysSo (reading_of c.read_frame.result) x (coming_read c.args.self.now c.args.peer (reading_of c.read_frame.result))) c.in-Alone.is c.in_ok-coming.ensures.says in
    subst (λ x. IsShortReading (reading_of x)) (sym c.in-Alone.said-is) (subst IsShortReading (sym (so.0 ∙ c.read_frame.ensures)) (short_reading c.args.frame.now))

took_alone : (c : goal.After-drop-earlier-in-Alone-coming-2) → IfOk c.deal.result (Took c.args.self.now c.args.peer c.args.name c.args.frame.now c.deal.new.self c.args.given.now c.deal.new.given)
took_alone c =
    let so = subst (λ x. SaysSo (reading_of c.read_frame.result) x (coming_read c.args.self.now c.args.peer (reading_of c.read_frame.result))) c.in-Alone.is c.in_ok-coming.ensures.says in
    took-alone c.args.self.now c.read_on.new.self c.end_part.new.self c.args.peer c.args.name c.unwrap_or-name.result c.args.frame.now (reading_of c.read_frame.result) c.in_ok-coming.coming.joins c.in_ok-earlier.earlier.items c.args.given.now c.end_part.new.given
    c.unwrap_or-name.ensures c.read_frame.ensures c.in_ok-coming.ensures.state c.in_ok-coming.ensures.joins c.in_ok-earlier.ensures.names c.in_ok-earlier.ensures.state c.in_ok-earlier.ensures.given
    c.in-Alone.said so c.deal.new.self c.deal.new.given c.deal.result
    (subst (λ x. IfOk c.deal.result (Deals c.args.peer (came_in (c.unwrap_or-name.result ∷ [])) (reading_of x) c.end_part.new.self c.deal.new.self c.end_part.new.given c.deal.new.given)) c.in-Alone.said-is c.deal.ensures)

pub returns-in-Alone-clause-word : goal.returns-in-Alone-clause-word
returns-in-Alone-clause-word c = if_map c.deal.result (λ its took. took.word) (took_alone c)

pub returns-in-Alone-clause-state : goal.returns-in-Alone-clause-state
returns-in-Alone-clause-state c = if_map c.deal.result (λ its took. took.state) (took_alone c)

pub returns-in-Alone-clause-given : goal.returns-in-Alone-clause-given
returns-in-Alone-clause-given c = if_map c.deal.result (λ its took. took.given) (took_alone c)

took_whole : (c : goal.After-deal_whole) → IfOk c.deal_whole.result (Took c.args.self.now c.args.peer c.args.name c.args.frame.now c.deal_whole.new.self c.args.given.now c.deal_whole.new.given)
took_whole c =
    let s = c.args.self.now in
    let own = reading_of c.read_frame.result in
    let p : Part = c.in-Whole.part in
    let a = c.part.inside.source in
    let b = c.part.inside.destination in
    let so = subst (λ x. SaysSo own x (coming_read s c.args.peer own)) c.in-Whole.is c.in_ok-coming.ensures.says in
    took-whole s c.read_on.new.self c.end_part.new.self c.args.peer c.args.name c.unwrap_or-name.result c.args.frame.now own c.in_ok-coming.coming.joins c.in_ok-earlier.earlier.items c.args.given.now c.end_part.new.given
    c.unwrap_or-name.ensures c.read_frame.ensures c.in_ok-coming.ensures.state c.in_ok-coming.ensures.joins c.in_ok-earlier.ensures.names c.in_ok-earlier.ensures.state c.in_ok-earlier.ensures.given
    (says a b (carried p.carrier p.content))
    (so.0 ∙ ap (λ (x : Part). says x.source x.destination (carried p.carrier p.content)) (sym (c.part.view_is ∙ c.in-Whole.part-is)))
    so.1 c.deal_whole.new.self c.deal_whole.new.given c.deal_whole.result
    (subst (λ (x : Part). IfOk c.deal_whole.result (Deals c.args.peer (came_in (c.in_ok-earlier.earlier.items ++ c.unwrap_or-name.result ∷ [])) (says a b (carried x.carrier x.content)) c.end_part.new.self c.deal_whole.new.self c.end_part.new.given c.deal_whole.new.given))
    c.in-Whole.part-is c.deal_whole.ensures)

pub returns-in-Whole-clause-word : goal.returns-in-Whole-clause-word
returns-in-Whole-clause-word c = if_map c.deal_whole.result (λ its took. took.word) (took_whole c)

pub returns-in-Whole-clause-state : goal.returns-in-Whole-clause-state
returns-in-Whole-clause-state c = if_map c.deal_whole.result (λ its took. took.state) (took_whole c)

pub returns-in-Whole-clause-given : goal.returns-in-Whole-clause-given
returns-in-Whole-clause-given c = if_map c.deal_whole.result (λ its took. took.given) (took_whole c)

pub returns-in_ok-hold-in-Held-clause-state : goal.returns-in_ok-hold-in-Held-clause-state
returns-in_ok-hold-in-Held-clause-state c =
    let s = c.args.self.now in
    let own = reading_of c.read_frame.result in
    let so = subst (λ x. SaysSo own x (coming_read s c.args.peer own)) c.in-Held.is c.in_ok-coming.ensures.says in
    took-held s c.read_on.new.self c.end_part.new.self c.args.peer c.args.name c.unwrap_or-name.result c.args.frame.now own c.in_ok-coming.coming.joins c.in_ok-earlier.earlier.items c.args.given.now c.end_part.new.given
    c.unwrap_or-name.ensures c.read_frame.ensures c.in_ok-coming.ensures.state c.in_ok-coming.ensures.joins c.in_ok-earlier.ensures.names c.in_ok-earlier.ensures.state c.in_ok-earlier.ensures.given
    so c.hold.new.self
    (c.in_ok-hold-in-Held.ensures ∙ ap (λ (es : List ℕ). record c.end_part.new.self { held = c.end_part.new.self.held ++ map (held_as c.args.peer) (es ++ c.unwrap_or-name.result ∷ []) }) c.deref.ensures.value)
