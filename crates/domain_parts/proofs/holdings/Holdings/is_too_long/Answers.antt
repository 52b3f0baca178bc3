use Rattle.std.proofs.Common.{◌≡◌, ◌∙◌, ℕ, Bool, false, ap, le-ltb, length, sym}
use Rattle.std.specs.Prelude.{nat_lt, ◌||◌}
use Rattle.mc_base.specs.Limits.{item_size}
use Rattle.board_model.specs.Answer.{passes_lane, puts_of}
use Rattle.domain_parts.specs.Outgoing.{post_of}
use Rattle.domain_parts.specs.Parts.{state_of}
use Rattle.domain_parts.proofs.PutItems.{frames-pass}
use Rattle.domain_parts.proofs.holdings.Holdings.is_too_long.Goals as goal

pub returns : goal.returns
returns g c =
    let o = c.args.item.now in
    let s = state_of c.args.self.now.parts in
    ap (λ (n : ℕ). nat_lt n c.frames.result) c.size_to.ensures
    ∙ frames-pass o c.frames.result c.frames.ensures.single c.frames.ensures.parts s
    ∙ ap (λ (b : Bool). b || passes_lane s (puts_of (post_of o))) (sym (le-ltb item_size (length o.bytes.now) c.if-item-gt-ITEM_SIZE.false))
