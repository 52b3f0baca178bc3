-- The steps of a priming.
use Rattle.std.proofs.Common.{◌≡◌, List, [], ◌∷◌, ◌++◌, length, sym, ap, ◌∙◌, arith, length-append, append_assoc, append-nil}
use Rattle.std.proofs.lemmas.List.{map-append}
use Rattle.mc_base.specs.Stored.{Stored}
use Rattle.shared_words.specs.Entry.{Entry}
use Rattle.shared_words.specs.declared.view.Role.TheVariants.{Driver}
use Rattle.split_ring.specs.Ends.{End, writes, IsSound}
use Rattle.split_ring.proofs.HeldLemmas.{tail_held}
use Rattle.lane_end.specs.RingOpening.{whole}
use Rattle.lane_end.specs.Priming.{Offers}
use Rattle.lane_end.proofs.OpeningLemmas.{whole-length}

pub offers-more : (old mid new : End) (done left rest : List Stored) (b : Stored) → Offers old mid done left → left ≡ b ∷ rest → new ≡ writes (b, length b.bytes) mid → IsSound Driver new → Offers old new (done ++ b ∷ []) rest
offers-more old mid new done left rest b o is after sound = record {
  driver = after ∙ (ap (writes (b, length b.bytes)) o.driver
      ∙ (λ i. record old { written = (append_assoc old.written (whole done) ((b, length b.bytes) ∷ []) ∙ ap (λ (l : List Entry). old.written ++ l) (sym (map-append (λ (s : Stored). (s, length s.bytes)) done (b ∷ [])))) i }));
  held = tail_held Driver mid new left rest b (length b.bytes) is after o.held;
  sound = sound;
}

-- what was fetched is what was offered, where as many are a front of it
pub all-fetched : (written taken rest : List Entry) (buffers : List Stored) → written ≡ whole buffers → written ≡ taken ++ rest → length taken ≡ length buffers → taken ≡ whole buffers
all-fetched written taken [] buffers is front many = sym (append-nil taken) ∙ (sym front ∙ is)
all-fetched written taken (e ∷ rest) buffers is front many =
    let w = ap (λ (l : List Entry). length l) is in let c = whole-length buffers in let f = ap (λ (l : List Entry). length l) front in let a = length-append taken (e ∷ rest) in
    absurd (omega (arith, w, c, f, a, many))
