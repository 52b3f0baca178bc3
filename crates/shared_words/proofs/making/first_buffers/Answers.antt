use Rattle.std.proofs.Common.{◌≡◌, ◌∙◌, ap, sym, ◌++◌, ◌∷◌, [], map, List, arith}
use mathlib.Core.List.{map-append}
use Rattle.mc_base.specs.Stored.{Stored}
use Rattle.shared_words.specs.Slots.{numbers_from}
use Rattle.shared_words.specs.Start.{new_buffer}
use Rattle.shared_words.proofs.Beginning.{numbers-more}
use Rattle.shared_words.proofs.making.first_buffers.Goals as goal

pub loop-id-preserved : goal.loop-id-preserved
loop-id-preserved c = let x : Stored = c.in-Ok.buffer in let k = c.loop-id.id in
    let new : x ≡ new_buffer c.args.length k = λ i. record { number = c.in-Ok.ensures.number i; bytes = c.in-Ok.ensures.zeros i } in let inv = c.loop-id.invariant in record {
      items = c.in_ok-push.ensures.items ∙ (ap (λ (l : List Stored). l ++ x ∷ []) inv.items ∙ (ap (λ (b : Stored). map (new_buffer c.args.length) (numbers_from 0 k) ++ b ∷ []) new
          ∙ (sym (map-append (new_buffer c.args.length) (numbers_from 0 k) (k ∷ [])) ∙ ap (map (new_buffer c.args.length)) (sym (numbers-more k)))));
      room = let more = c.in_ok-push.ensures.capacity in let was = inv.room in omega (arith, more, was);
    }
