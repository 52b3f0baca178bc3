use Rattle.std.proofs.Common.{◌≡◌, ◌∙◌, ap, sym, ◌+◌, ◌++◌, ◌∷◌, [], ℕ, List, get_or, arith}
use Rattle.shared_words.specs.Layout.{word}
use Rattle.split_ring.specs.Left.{number_field, number_at}
use Rattle.split_ring.proofs.FinishLemmas.{standing-more, place_of}
use Rattle.split_ring.proofs.finish.numbers_left.Goals as goal

pub loop-n-preserved : goal.loop-n-preserved
loop-n-preserved c = let inv = c.loop-n.invariant in let n = c.loop-n.n in let words : List ℕ = c.args.words.now in let z = c.args.size in let from = c.args.from in
    let value : get_or words c.word_of.result 0 ≡ number_at words z c.args.entries (from + n) =
    ap (λ (i : ℕ). get_or words i 0) (c.word_of.ensures.word ∙ ap (word z) (c.number.ensures ∙ ap (number_field c.args.entries) (place_of from n z c.requires.size))) in record {
      items = c.push_reserved.ensures.items ∙ (ap (λ (l : List ℕ). l ++ get_or words c.word_of.result 0 ∷ []) inv.items ∙ (ap (λ (v : ℕ). Rattle.split_ring.specs.Left.numbers_standing words z c.args.entries from n ++ v ∷ []) value ∙ sym (standing-more words z c.args.entries from n)));
      len = (let l = c.push_reserved.ensures.len in let m = inv.len in omega (arith, l, m));
      room = (let r = inv.room in let q = c.push_reserved.ensures.capacity in omega (arith, r, q));
    }
