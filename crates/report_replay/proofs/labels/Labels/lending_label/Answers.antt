use Rattle.std.proofs.Common.{◌∙◌, Bool, List, ℕ, option_map, ap, sym, refl}
use Rattle.std.specs.Prelude.{find}
use Rattle.arrayvec.specs.ArrayVec.{ArrayVec}
use Rattle.board_model.specs.Scenario.{label_in}
use Rattle.board_model.specs.Answer.{is_complete_at}
use Rattle.board_model.proofs.ListsMapped.{find-mapped, option-map-map}
use Rattle.report_replay.specs.HeldLabels.{request_by, lending_by}
use Rattle.report_replay.proofs.labels.Labels.lending_label.Goals as goal

pub returns-in-WaitAny : goal.returns-in-WaitAny
returns-in-WaitAny c =
    let held = c.args.self.now in
    let s = c.args.state.now in
    let names = c.in-WaitAny.labels.items in
    let complete : List ℕ → Bool = λ label. is_complete_at s (request_by held s label) in
    let first = c.complete_label.ensures ∙ ap (find (λ (l : ArrayVec ℕ). complete l.items)) c.as_slice.ensures.labels in
    sym (option-map-map (λ (l : ArrayVec ℕ). l.items) (λ l. l.now) c.complete_label.result)
    ∙ ap (option_map (λ (l : ArrayVec ℕ). l.items)) first
    ∙ sym (find-mapped (λ (l : ArrayVec ℕ). l.items) complete (λ l. complete l.items) (λ l. refl) names)
    ∙ ap (λ k. lending_by held s k (label_in c.args.line.now)) (sym c.in-WaitAny.is)
