use Rattle.std.proofs.Common.{◌≡◌, ℕ, ◌-◌, List, length, take, drop, min, ap, ◌∙◌}
use Rattle.std.proofs.lemmas.List.{drop_min, take_min}
use Rattle.report_sequence.proofs.plan.events_in.Goals as goal

part_found : {X : Type 0} (es xs ys : List X) (from to a b n : ℕ) → a ≡ min from (length es) → xs ≡ drop a es → n ≡ to - from → b ≡ min n (length xs) → ys ≡ take b xs
    → ys ≡ take (to - from) (drop from es)
part_found es xs ys from to a b n first behind count last front =
    front ∙ ap (λ k. take k xs) last ∙ take_min n xs ∙ ap (λ k. take k xs) count
    ∙ ap (λ zs. take (to - from) zs) (behind ∙ ap (λ k. drop k es) first ∙ drop_min from es)

pub returns : goal.returns
returns c =
    part_found c.args.events.now c.split_at.result.1.now _ c.args.from c.args.to _ _ _
    c.min.ensures c.split_at.ensures.back c.saturating_sub-count.ensures c.min-2.ensures c.split_at-2.ensures.front
