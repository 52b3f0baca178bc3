use Rattle.std.proofs.Common.{◌≡◌, ◌∙◌, ◌++◌, ℕ, List, drop, replicate, ap}
use Rattle.std.proofs.lemmas.List.{length-take-le}
use Rattle.name_service.proofs.Announcements.{drop-nuls}
use Rattle.name_service.proofs.writing.write_name.Goals as goal

-- The field is filled with NUL, and then the name stands at its front.
pub returns : goal.returns
returns c =
    let filled : c.fill.new.self ≡ replicate 32 0 =
    c.fill.ensures.after (λ _ e. e) ∙ ap (λ (k : ℕ). replicate k 0) (length-take-le 32 c.args.out.now c.requires.room) in
    let behind = drop-nuls c.args.name.now (drop 32 c.args.out.now) c.requires.short in
    rw (filled, c.copy_from_slice.ensures.after) (ap (λ (xs : List ℕ). c.args.name.now ++ xs) behind)
