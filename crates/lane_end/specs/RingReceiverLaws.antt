-- What holds of the moves of every receiver over a ring.
-- Source: docs/PROFILE.md, "Lanes".
use Rattle.std.specs.Prelude.{◌≡◌, ℕ, ◌+◌, ◌≤◌, List, [], ◌∷◌, ◌++◌, length, refl}
use Rattle.std.proofs.Common.{ap, ◌∙◌, sym, subst, arith, append_assoc, append-nil, le_trans, le_refl, length-append}
use Rattle.std.proofs.lemmas.List.{map-append, length-map}
use Rattle.shared_words.specs.Shown.{RingId, size_of}
use Rattle.shared_words.specs.declared.view.Role.{Role}
use Rattle.lane_end.specs.Entries.{load_in}
use Rattle.lane_end.specs.Opened.{given_length}
use Rattle.lane_end.specs.ReceiveMoves.{ReceiveMove, Looked, Took, Gave}
use Rattle.lane_end.specs.ReceiveParts.{frames_taken, numbers_given, see_counts, SeenBetween}
use Rattle.lane_end.specs.ReceiverContract.{without}
use Rattle.lane_end.specs.RingReceiver.{RingReceiver, receiver_size, taken_by, given_by, written_by, out_at, come_known, with_lengths, OutMoves, RingReceives}

taken-append : (xs ys : List ReceiveMove) → frames_taken (xs ++ ys) ≡ frames_taken xs ++ frames_taken ys
taken-append [] ys = refl
taken-append (Looked n ∷ xs) ys = taken-append xs ys
taken-append (Took n f ∷ xs) ys = ap (λ (l : List (ℕ × List ℕ)). (n, f) ∷ l) (taken-append xs ys)
taken-append (Gave n ∷ xs) ys = taken-append xs ys

given-append : (xs ys : List ReceiveMove) → numbers_given (xs ++ ys) ≡ numbers_given xs ++ numbers_given ys
given-append [] ys = refl
given-append (Looked n ∷ xs) ys = given-append xs ys
given-append (Took n f ∷ xs) ys = given-append xs ys
given-append (Gave n ∷ xs) ys = ap (λ (l : List ℕ). n ∷ l) (given-append xs ys)

sees-append : (xs ys : List ReceiveMove) → see_counts (xs ++ ys) ≡ see_counts xs ++ see_counts ys
sees-append [] ys = refl
sees-append (Looked n ∷ xs) ys = ap (λ (l : List ℕ). n ∷ l) (sees-append xs ys)
sees-append (Took n f ∷ xs) ys = sees-append xs ys
sees-append (Gave n ∷ xs) ys = sees-append xs ys

Seen-wider : (low low' high high' before : ℕ) (ms : List ReceiveMove) → low' ≤ low → high ≤ high' → SeenBetween low high before ms → SeenBetween low' high' before ms
Seen-wider low low' high high' before [] l h s = tt
Seen-wider low low' high high' before (Looked n ∷ ms) l h s = (le_trans l s.0, le_trans s.1 h, Seen-wider low low' high high' before ms l h s.2)
Seen-wider low low' high high' before (Took n f ∷ ms) l h s = Seen-wider low low' high high' (before + 1) ms l h s
Seen-wider low low' high high' before (Gave n ∷ ms) l h s = Seen-wider low low' high high' before ms l h s

Seen-append : (low high before : ℕ) (xs ys : List ReceiveMove) → SeenBetween low high before xs → SeenBetween low high (before + length (frames_taken xs)) ys → SeenBetween low high before (xs ++ ys)
Seen-append low high before [] ys a b = subst (λ (n : ℕ). SeenBetween low high n ys) (let e : before + 0 ≡ before = omega arith in e) b
Seen-append low high before (Looked n ∷ xs) ys a b = (a.0, a.1, Seen-append low high before xs ys a.2 b)
Seen-append low high before (Took n f ∷ xs) ys a b =
    let e : before + length ((n, f) ∷ frames_taken xs) ≡ before + 1 + length (frames_taken xs) = omega arith in
    Seen-append low high (before + 1) xs ys a (subst (λ (m : ℕ). SeenBetween low high m ys) e b)
Seen-append low high before (Gave n ∷ xs) ys a b = Seen-append low high before xs ys a b

lengths-append : (role : Role) (ring : RingId) (xs ys : List ℕ) → with_lengths role ring (xs ++ ys) ≡ with_lengths role ring xs ++ with_lengths role ring ys
lengths-append role ring xs ys = map-append (λ (n : ℕ). (n, given_length role ring)) xs ys

Out-append : (size : ℕ) (a b c : List ℕ) (xs ys : List ReceiveMove) → OutMoves size a xs b → OutMoves size b ys c → OutMoves size a (xs ++ ys) c
Out-append size a b c [] ys first then = subst (λ (out : List ℕ). OutMoves size out ys c) first then
Out-append size a b c (Looked n ∷ xs) ys first then = Out-append size a b c xs ys first then
Out-append size a b c (Took n frame ∷ xs) ys first then = (first.0, Out-append size (a ++ n ∷ []) b c xs ys first.1 then)
Out-append size a b c (Gave n ∷ xs) ys first then = (first.0, Out-append size (without n a) b c xs ys first.1 then)

pub RingReceives-none : (e : RingReceiver) → RingReceives e [] e
RingReceives-none e = record { ring = refl; role = refl; taken = sym (append-nil (taken_by e)); given = sym (append-nil (given_by e)); written = sym (append-nil (written_by e)); outs = refl; looks = sym (append-nil e.half.looks); known = le_refl (come_known e); seen = tt }

pub RingReceives-both : (a b c : RingReceiver) (xs ys : List ReceiveMove) → RingReceives a xs b → RingReceives b ys c → RingReceives a (xs ++ ys) c
RingReceives-both a b c xs ys f g =
    let many : length b.half.taken ≡ length a.half.taken + length (frames_taken xs) =
    sym (length-map b.half.taken load_in) ∙ (ap (λ (l : List (ℕ × List ℕ)). length l) f.taken ∙ (length-append (taken_by a) (frames_taken xs) ∙ ap (λ (m : ℕ). m + length (frames_taken xs)) (length-map a.half.taken load_in))) in
    let both : (part : RingReceiver → List (ℕ × ℕ)) → part b ≡ part a ++ with_lengths a.role a.half.ring (numbers_given xs) → part c ≡ part b ++ with_lengths b.role b.half.ring (numbers_given ys) → part c ≡ part a ++ with_lengths a.role a.half.ring (numbers_given (xs ++ ys)) =
    λ part first then. then ∙ ((λ i. first i ++ with_lengths (f.role i) (f.ring i) (numbers_given ys))
    ∙ (append_assoc (part a) (with_lengths a.role a.half.ring (numbers_given xs)) (with_lengths a.role a.half.ring (numbers_given ys))
    ∙ ap (λ (l : List (ℕ × ℕ)). part a ++ l) (sym (ap (with_lengths a.role a.half.ring) (given-append xs ys) ∙ lengths-append a.role a.half.ring (numbers_given xs) (numbers_given ys))))) in record {
      ring = g.ring ∙ f.ring;
      role = g.role ∙ f.role;
      taken = g.taken ∙ (ap (λ (l : List (ℕ × List ℕ)). l ++ frames_taken ys) f.taken ∙ (append_assoc (taken_by a) (frames_taken xs) (frames_taken ys) ∙ ap (λ (l : List (ℕ × List ℕ)). taken_by a ++ l) (sym (taken-append xs ys))));
      given = both given_by f.given g.given;
      written = both written_by f.written g.written;
      outs = Out-append (receiver_size a) (out_at a) (out_at b) (out_at c) xs ys f.outs (subst (λ (ring : RingId). OutMoves (size_of ring) (out_at b) ys (out_at c)) f.ring g.outs);
      looks = g.looks ∙ (ap (λ (l : List ℕ). l ++ see_counts ys) f.looks ∙ (append_assoc a.half.looks (see_counts xs) (see_counts ys) ∙ ap (λ (l : List ℕ). a.half.looks ++ l) (sym (sees-append xs ys))));
      known = le_trans f.known g.known;
      seen = Seen-append (come_known a) (come_known c) (length a.half.taken) xs ys (Seen-wider (come_known a) (come_known a) (come_known b) (come_known c) (length a.half.taken) xs (le_refl (come_known a)) g.known f.seen)
          (Seen-wider (come_known b) (come_known a) (come_known c) (come_known c) (length a.half.taken + length (frames_taken xs)) ys f.known (le_refl (come_known c)) (subst (λ (m : ℕ). SeenBetween (come_known b) (come_known c) m ys) many g.seen));
    }

pub RingReceives-size : (a b : RingReceiver) (xs : List ReceiveMove) → RingReceives a xs b → receiver_size b ≡ receiver_size a
RingReceives-size a b xs s = ap size_of s.ring
