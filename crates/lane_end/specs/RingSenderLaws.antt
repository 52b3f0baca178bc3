-- What holds of the moves of every sender over a ring.
-- Source: docs/PROFILE.md, "Lanes".
use Rattle.std.specs.Prelude.{◌≡◌, ℕ, ◌+◌, ◌≤◌, List, [], ◌∷◌, ◌++◌, length, map, sum, refl}
use Rattle.std.proofs.Common.{ap, ◌∙◌, sym, subst, arith, append_assoc, append-nil, le_trans, le_refl}
use Rattle.std.proofs.lemmas.List.{map-append}
use Rattle.std.proofs.lemmas.List.Sums.{sum_by-append}
use Rattle.shared_words.specs.Shown.{RingId, size_of}
use Rattle.lane_end.specs.SendMoves.{SendMove, Looked, Sent}
use Rattle.lane_end.specs.SendParts.{frames_sent, back_counts, BackBetween}
use Rattle.lane_end.specs.RingSender.{RingSender, sender_size, put_by, lengths_by, back_known, Hand, hand_of, Deals, RingSends}

sent-append : (xs ys : List SendMove) → frames_sent (xs ++ ys) ≡ frames_sent xs ++ frames_sent ys
sent-append [] ys = refl
sent-append (Looked n ∷ xs) ys = sent-append xs ys
sent-append (Sent f ∷ xs) ys = ap (λ (l : List (List ℕ)). f ∷ l) (sent-append xs ys)

counts-append : (xs ys : List SendMove) → back_counts (xs ++ ys) ≡ back_counts xs ++ back_counts ys
counts-append [] ys = refl
counts-append (Looked n ∷ xs) ys = ap (λ (l : List ℕ). n ∷ l) (counts-append xs ys)
counts-append (Sent f ∷ xs) ys = counts-append xs ys

Back-wider : (low low' high high' before : ℕ) (ms : List SendMove) → low' ≤ low → high ≤ high' → BackBetween low high before ms → BackBetween low' high' before ms
Back-wider low low' high high' before [] l h s = tt
Back-wider low low' high high' before (Looked n ∷ ms) l h s = (le_trans l s.0, le_trans s.1 h, Back-wider low low' high high' (before + n) ms l h s.2)
Back-wider low low' high high' before (Sent f ∷ ms) l h s = Back-wider low low' high high' before ms l h s

Back-append : (low high before : ℕ) (xs ys : List SendMove) → BackBetween low high before xs → BackBetween low high (before + sum (back_counts xs)) ys → BackBetween low high before (xs ++ ys)
Back-append low high before [] ys a b = subst (λ (n : ℕ). BackBetween low high n ys) (let e : before + 0 ≡ before = omega arith in e) b
Back-append low high before (Looked n ∷ xs) ys a b =
    let s = sum_by-append (λ (x : ℕ). x) (n ∷ []) (back_counts xs) in
    let e : before + sum (n ∷ back_counts xs) ≡ before + n + sum (back_counts xs) = omega (arith, s) in
    (a.0, a.1, Back-append low high (before + n) xs ys a.2 (subst (λ (m : ℕ). BackBetween low high m ys) e b))
Back-append low high before (Sent f ∷ xs) ys a b = Back-append low high before xs ys a b

Deals-append : (size : ℕ) (a b c : Hand) (xs ys : List SendMove) → Deals size a xs b → Deals size b ys c → Deals size a (xs ++ ys) c
Deals-append size a b c [] ys first then = subst (λ (h : Hand). Deals size h ys c) first then
Deals-append size a b c (Looked n ∷ xs) ys first then = (first.0, first.1, first.2, Deals-append size (record { free = a.free ++ first.0; sent = a.sent; back = a.back ++ first.0 }) b c xs ys first.3 then)
Deals-append size a b c (Sent f ∷ xs) ys first then = (first.0, first.1, first.2, first.3, Deals-append size (record { free = first.1; sent = a.sent ++ first.0 ∷ []; back = a.back }) b c xs ys first.4 then)

abbrev lengths_of : List (List ℕ) → List ℕ
lengths_of frames = map (λ (frame : List ℕ). length frame) frames

pub RingSends-none : (e : RingSender) → RingSends e [] e
RingSends-none e = record { ring = refl; role = refl; put = sym (append-nil (put_by e)); lengths = sym (append-nil (lengths_by e)); looks = sym (append-nil e.half.looks); known = le_refl (back_known e); seen = tt; deals = refl }

pub RingSends-both : (a b c : RingSender) (xs ys : List SendMove) → RingSends a xs b → RingSends b ys c → RingSends a (xs ++ ys) c
RingSends-both a b c xs ys f g =
    let sums : sum b.half.looks ≡ sum a.half.looks + sum (back_counts xs) = ap sum f.looks ∙ sum_by-append (λ (x : ℕ). x) a.half.looks (back_counts xs) in record {
      ring = g.ring ∙ f.ring;
      role = g.role ∙ f.role;
      put = g.put ∙ (ap (λ (l : List (List ℕ)). l ++ frames_sent ys) f.put ∙ (append_assoc (put_by a) (frames_sent xs) (frames_sent ys) ∙ ap (λ (l : List (List ℕ)). put_by a ++ l) (sym (sent-append xs ys))));
      lengths = g.lengths ∙ (ap (λ (l : List ℕ). l ++ lengths_of (frames_sent ys)) f.lengths ∙ (append_assoc (lengths_by a) (lengths_of (frames_sent xs)) (lengths_of (frames_sent ys))
          ∙ ap (λ (l : List ℕ). lengths_by a ++ l) (sym (ap lengths_of (sent-append xs ys) ∙ map-append (λ (frame : List ℕ). length frame) (frames_sent xs) (frames_sent ys)))));
      looks = g.looks ∙ (ap (λ (l : List ℕ). l ++ back_counts ys) f.looks ∙ (append_assoc a.half.looks (back_counts xs) (back_counts ys) ∙ ap (λ (l : List ℕ). a.half.looks ++ l) (sym (counts-append xs ys))));
      known = le_trans f.known g.known;
      seen = Back-append (back_known a) (back_known c) (sum a.half.looks) xs ys (Back-wider (back_known a) (back_known a) (back_known b) (back_known c) (sum a.half.looks) xs (le_refl (back_known a)) g.known f.seen)
          (Back-wider (back_known b) (back_known a) (back_known c) (back_known c) (sum a.half.looks + sum (back_counts xs)) ys f.known (le_refl (back_known c)) (subst (λ (n : ℕ). BackBetween (back_known b) (back_known c) n ys) sums g.seen));
      deals = Deals-append (sender_size a) (hand_of a) (hand_of b) (hand_of c) xs ys f.deals (subst (λ (r : RingId). Deals (size_of r) (hand_of b) ys (hand_of c)) f.ring g.deals);
    }

pub RingSends-size : (a b : RingSender) (xs : List SendMove) → RingSends a xs b → sender_size b ≡ sender_size a
RingSends-size a b xs s = ap size_of s.ring
