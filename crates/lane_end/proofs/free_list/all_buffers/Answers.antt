use Rattle.std.proofs.Common.{◌≡◌, ◌∙◌, ◌+◌, ℕ, List, [], ◌∷◌, ◌++◌, ap, sym, rules}
use Rattle.std.proofs.lemmas.List.{map-append}
use Rattle.mc_base.specs.Stored.{Stored}
use Rattle.lane_end.specs.Held.{numbers_of}
use Rattle.lane_end.specs.Numbers.{all_numbers}
use Rattle.lane_end.proofs.CountLemmas.{all-more}
use Rattle.lane_end.proofs.free_list.all_buffers.Goals as goal

one-more : (old new : List Stored) (b : Stored) (n : ℕ) → numbers_of old ≡ all_numbers n → b.number ≡ n → new ≡ old ++ b ∷ [] → numbers_of new ≡ all_numbers (n + 1)
one-more old new b n all number is =
    ap numbers_of is ∙ (map-append (λ (s : Stored). s.number) old (b ∷ []) ∙ (ap (λ (ns : List ℕ). ns ++ b.number ∷ []) all
    ∙ (ap (λ (m : ℕ). all_numbers n ++ m ∷ []) number ∙ sym (all-more n))))

pub loop-number-preserved : goal.loop-number-preserved
loop-number-preserved c = record {
  numbers = one-more c.loop-number.buffers.items _ c.in-Ok.buffer c.loop-number.number c.loop-number.invariant.numbers c.in-Ok.ensures.number (c.push_back_reserved.ensures.items ∙ ap (λ (b : Stored). c.loop-number.buffers.items ++ b ∷ []) c.new-in-loop-number.ensures);
  len = search rules;
  room = search rules;
}
