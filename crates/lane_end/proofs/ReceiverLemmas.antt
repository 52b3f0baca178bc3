-- What a receiver over a ring keeps, and what is out there.
use Rattle.std.proofs.Common.{◌≡◌, ℕ, ◌+◌, ◌-◌, ◌<◌, ◌≤◌, List, [], ◌∷◌, ◌++◌, length, refl, ap, sym, ◌∙◌, subst, arith, length-append, length-drop, append-nil, le_refl}
use Rattle.std.specs.Prelude.{Contains}
use Rattle.std.proofs.lemmas.List.{map-append, take-append-le}
use Rattle.mc_base.specs.Stored.{Stored}
use Rattle.mc_base.specs.Limits.{buffer_size}
use Rattle.shared_words.specs.Entry.{Entry, number_of, times}
use Rattle.shared_words.specs.Places.{begins}
use Rattle.shared_words.specs.Shown.{RingId, TableShown}
use Rattle.split_ring.specs.Ends.{looks_at, takes, writes, HoldsNumber, IsSound}
use Rattle.lane_end.specs.Numbers.{often, AreApart}
use Rattle.lane_end.specs.ReceiveMoves.{Looked, Took, Gave}
use Rattle.lane_end.specs.ReceiverContract.{without}
use Rattle.lane_end.specs.Entries.{frame_in, load_in, numbers_in, return_in, returns_in}
use Rattle.lane_end.specs.Opened.{written_before, given_length}
use Rattle.lane_end.specs.RingReceiver.{RingReceiver, receiver_size, taken_by, given_entries, given_by, written_by, out_at, struck, come_known, RingReceives}
use Rattle.lane_end.specs.KeptRing.{KeepsReceiver}
use Rattle.lane_end.proofs.CountLemmas.{often-contained}
use Rattle.lane_end.proofs.EntryLemmas.{times-often, numbers-length, numbers-append, times-split, numbers-drop-more, written-start, AreAmong, often-struck, length-struck, struck-more, struck-last}

abbrev pub looked : ℕ → RingReceiver → RingReceiver
looked n r = record r { half = looks_at n r.half; shown = n }

abbrev pub took : Entry → RingReceiver → RingReceiver
took e r = record r { half = takes e r.half; shown = r.shown - 1 }

abbrev pub gave : Entry → RingReceiver → RingReceiver
gave e r = record r { half = writes e r.half }

module _ (on : TableShown) (r : RingReceiver) (k : KeepsReceiver on r) where
  given-times : (x : ℕ) → times x r.half.written ≡ begins r.role (receiver_size r) x + often x (numbers_in (given_entries r))
  given-times x = let s = times-split x (written_before r.role (receiver_size r)) r.half.written in let f = k.first x in omega (arith, s, f)

  are-among : AreAmong (numbers_in (given_entries r)) (numbers_in r.half.taken)
  are-among x = let o = k.sound.owned x in let g = given-times x in let t = times-often x r.half.taken in omega (arith, o, g, t)

  pub out-apart : AreApart (receiver_size r) (out_at r)
  out-apart x =
      let o = often-struck (numbers_in (given_entries r)) (numbers_in r.half.taken) are-among x in
      let d = k.sound.differ x in let g = given-times x in let t = times-often x r.half.taken in omega (arith, o, d, g, t)

  given-count : length (given_entries r) + written_before r.role (receiver_size r) ≡ length r.half.written
  given-count = let d = length-drop (written_before r.role (receiver_size r)) r.half.written in let o = k.receiver.opened in omega (arith, d, o)

  pub out-count : length (out_at r) + length (given_entries r) ≡ length r.half.taken
  out-count =
      let l = length-struck (numbers_in (given_entries r)) (numbers_in r.half.taken) are-among in
      let g = numbers-length (given_entries r) in let t = numbers-length r.half.taken in omega (arith, l, g, t)

  pub out-room : length (out_at r) + r.shown ≤ receiver_size r
  out-room =
      let c = out-count in
      let w = given-count in let s = written-start r.role (receiver_size r) in
      let room = k.sound.room in let shown = k.receiver.shown in omega (arith, c, w, s, room, shown)

  pub out-held : (n : ℕ) → Contains (out_at r) n → HoldsNumber r.role r.half n
  out-held n c =
      let p = often-contained (out_at r) n c in
      let o = often-struck (numbers_in (given_entries r)) (numbers_in r.half.taken) are-among n in
      let g = given-times n in let t = times-often n r.half.taken in omega (arith, p, o, g, t)

  -- its ring's buffers have the bytes that those of a link have
  pub ring_width : r.half.ring.width ≡ buffer_size
  ring_width = ap (λ (i : RingId). i.width) k.ring ∙ k.width

  pub look-keeps : (n : ℕ) → IsSound r.role (looks_at n r.half) → KeepsReceiver on (looked n r)
  look-keeps n sound = record { ring = k.ring; width = k.width; sound = sound; first = k.first; receiver = record { shown = omega arith; opened = k.receiver.opened } }

  pub take-keeps : (e : Entry) → 0 < r.shown → IsSound r.role (takes e r.half) → KeepsReceiver on (took e r)
  take-keeps e some sound = record {
    ring = k.ring;
    width = k.width;
    sound = sound;
    first = k.first;
    receiver = record { shown = let s = k.receiver.shown in let l = length-append r.half.taken (e ∷ []) in omega (arith, s, l, some); opened = k.receiver.opened };
  }

  pub give-keeps : (e : Entry) → IsSound r.role (writes e r.half) → KeepsReceiver on (gave e r)
  give-keeps e sound = record {
    ring = k.ring;
    width = k.width;
    sound = sound;
    first = λ x. ap (times x) (take-append-le (written_before r.role (receiver_size r)) r.half.written (e ∷ []) k.receiver.opened) ∙ k.first x;
    receiver = record { shown = k.receiver.shown; opened = let o = k.receiver.opened in let l = length-append r.half.written (e ∷ []) in omega (arith, o, l) };
  }

  pub out-takes : (e : Entry) → out_at (took e r) ≡ out_at r ++ number_of e ∷ []
  out-takes e = ap (struck (numbers_in (given_entries r))) (numbers-append r.half.taken (e ∷ [])) ∙ struck-more (numbers_in (given_entries r)) (numbers_in r.half.taken) (number_of e ∷ []) are-among

  pub out-gives : (e : Entry) → out_at (gave e r) ≡ without (number_of e) (out_at r)
  out-gives e =
      ap (λ (l : List Entry). struck (numbers_in l) (numbers_in r.half.taken)) (numbers-drop-more (written_before r.role (receiver_size r)) r.half.written e k.receiver.opened)
      ∙ (ap (λ (l : List ℕ). struck l (numbers_in r.half.taken)) (numbers-append (given_entries r) (e ∷ [])) ∙ struck-last (numbers_in (given_entries r)) (number_of e) (numbers_in r.half.taken))

  -- ---- each call as a move

  pub look-moves : (n : ℕ) → r.half.shown ≤ length r.half.taken + n → RingReceives r (Looked n ∷ []) (looked n r)
  look-moves n known = record {
    ring = refl;
    role = refl;
    taken = sym (append-nil (taken_by r));
    given = sym (append-nil (given_by r));
    written = sym (append-nil (written_by r));
    outs = refl;
    looks = refl;
    known = known;
    seen = (known, le_refl (length r.half.taken + n), tt);
  }

  pub take-moves : (e : Entry) → AreApart (receiver_size r) (out_at (took e r)) → RingReceives r (Took (number_of e) (frame_in e) ∷ []) (took e r)
  take-moves e apart = record {
    ring = refl;
    role = refl;
    taken = map-append load_in r.half.taken (e ∷ []);
    given = sym (append-nil (given_by r));
    written = sym (append-nil (written_by r));
    outs = (subst (AreApart (receiver_size r)) (out-takes e) apart, out-takes e);
    looks = sym (append-nil r.half.looks);
    known = le_refl (come_known r);
    seen = tt;
  }

  pub give-moves : (b : Stored) → Contains (out_at r) b.number → RingReceives r (Gave b.number ∷ []) (gave (b, given_length r.role r.half.ring) r)
  give-moves b out = let e : Entry = (b, given_length r.role r.half.ring) in record {
    ring = refl;
    role = refl;
    taken = sym (append-nil (taken_by r));
    given = ap returns_in (numbers-drop-more (written_before r.role (receiver_size r)) r.half.written e k.receiver.opened) ∙ map-append return_in (given_entries r) (e ∷ []);
    written = map-append return_in r.half.written (e ∷ []);
    outs = (out, out-gives e);
    looks = sym (append-nil r.half.looks);
    known = le_refl (come_known r);
    seen = tt;
  }
