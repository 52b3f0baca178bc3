-- The frames that a message or packet goes in, by their places.
use Rattle.std.proofs.Common.{◌≡◌, ℕ, zero, suc, ◌+◌, ◌*◌, ◌<◌, ◌≤◌, false, cond, List, [], ◌∷◌, length, map, take, drop, None, Some, sym, ap, ap₂, ◌∙◌, arith}
use Rattle.std.specs.Prelude.{min, nat_le, option_map, slice_get, unwrap_or}
use Rattle.std.proofs.lemmas.Bool.{lt-leb}
use Rattle.std.proofs.lemmas.List.{append-nil, drop-drop, length-map, take_min}
use Rattle.std.proofs.lemmas.Option.{slice_get_past}
use Rattle.mc_base.specs.Frame.{made}
use Rattle.mc_base.specs.declared.name.EndName.{EndName}
use Rattle.mc_base.specs.Letter.{Carrier, of_message, carried, piece, piece_spelling, spelling}
use Rattle.mc_base.specs.Limits.{piece_size, single_size}
use Rattle.mc_base.specs.Pieces.{frames_of_size, item_spellings, parts_count, parts_from, parts_of}
use Rattle.mc_base.proofs.PieceCounts.{item-frames}
use Rattle.board_model.specs.Answer.{address_of, local, success_puts}
use Rattle.board_model.specs.DomainCall.{send_from}
use Rattle.board_model.specs.State.{DomainState, address_at}
use Rattle.report_replay.specs.Puts.{frames_on, way}
use Rattle.report_replay.specs.declared.frames.Way.{Way}

get-map : {A B : Type 0} (f : A → B) (xs : List A) (n : ℕ) (x : A) → slice_get xs n ≡ Some x → slice_get (map f xs) n ≡ Some (f x)
get-map f [] n x e = absurd cc
get-map f (y ∷ ys) zero x e = ap (option_map f) e
get-map f (y ∷ ys) (suc n) x e = get-map f ys n x e

part-at : (k : Carrier) (total count offset n : ℕ) (rest : List ℕ) → n < count → slice_get (parts_from piece_size k total count offset rest) n ≡ Some (piece k total (offset + 484 * n) (take 484 (drop (484 * n) rest)))
part-at k total zero offset n rest less = absurd (omega arith)
part-at k total (suc count) offset zero rest less = let same : offset ≡ offset + 484 * 0 = omega arith in ap (λ o. Some (piece k total o (take 484 rest))) same
part-at k total (suc count) offset (suc n) rest less =
    let fewer : n < count = omega arith in
    let place : offset + 484 + 484 * n ≡ offset + 484 * suc n = omega arith in
    let more : 484 + 484 * n ≡ 484 * suc n = omega arith in
    part-at k total count (offset + 484) n (drop 484 rest) fewer
    ∙ ap₂ (λ o bytes. Some (piece k total o (take 484 bytes))) place (drop-drop (484 * n) 484 rest ∙ ap (λ m. drop m rest) more)

module _ (w : Way) (k : Carrier) (bytes : List ℕ) where
  abbrev frame_of : List ℕ → ℕ × List ℕ
  frame_of payload = (w.peer, made w.source w.destination payload)

  pub item-past : (n : ℕ) → frames_of_size (length bytes) ≤ n → None ≡ slice_get (frames_on w (item_spellings k bytes)) n
  item-past n past = sym (slice_get_past (frames_on w (item_spellings k bytes)) n (omega (arith, length-map (item_spellings k bytes) frame_of, item-frames k bytes, past)))

  module _ (n : ℕ) (long : single_size < length bytes) (less : n < frames_of_size (length bytes)) where
    in_parts : nat_le (length bytes) single_size ≡ false
    in_parts = lt-leb (length bytes) single_size long

    counted : frames_of_size (length bytes) ≡ parts_count (length bytes)
    counted = ap (λ b. cond b 1 (parts_count (length bytes))) in_parts

    pub item-part : (offset count : ℕ) (rest : List ℕ) → offset ≡ 484 * n → rest ≡ drop offset bytes → count ≡ min (length rest) 484
        → Some (frame_of (piece_spelling (piece k (length bytes) offset (take count rest)))) ≡ slice_get (frames_on w (item_spellings k bytes)) n
    item-part offset count rest place rest_is count_is =
        sym (get-map frame_of (item_spellings k bytes) n (piece_spelling (piece k (length bytes) offset (take count rest)))
        (ap (λ c. slice_get (cond c (spelling (carried k bytes) ∷ []) (map piece_spelling (parts_of k bytes))) n) in_parts
        ∙ get-map piece_spelling (parts_of k bytes) n (piece k (length bytes) offset (take count rest)) (part-at k (length bytes) (parts_count (length bytes)) 0 n bytes (omega (arith, less, counted)) ∙ there)))
      where
        there : Some (piece k (length bytes) (0 + 484 * n) (take 484 (drop (484 * n) bytes))) ≡ Some (piece k (length bytes) offset (take count rest))
        there =
            let most : count ≡ min 484 (length rest) = omega (arith, count_is) in
            let first : 0 + 484 * n ≡ offset = omega (arith, place) in
            ap₂ (λ o bs. Some (piece k (length bytes) o bs)) first (sym (ap (λ m. take m rest) most ∙ take_min 484 rest ∙ ap (take 484) (rest_is ∙ ap (λ m. drop m bytes) place)))

-- a message goes from the endpoint to the named one
pub send-puts : (s : DomainState) (node port : ℕ) (to : EndName) (priority : ℕ) (bytes : List ℕ) (w : Way) (n : ℕ) → w ≡ way to.domain (unwrap_or (address_at s (local node port)) 0) (unwrap_or (address_of s to) 0)
    → slice_get (frames_on w (item_spellings (of_message priority) bytes)) n ≡ slice_get (success_puts s node (send_from port to priority bytes)) n
send-puts s node port to priority bytes w n is =
    ap (λ v. slice_get (frames_on v (item_spellings (of_message priority) bytes)) n) is
    ∙ ap (λ ps. slice_get ps n) (sym (append-nil (frames_on (way to.domain (unwrap_or (address_at s (local node port)) 0) (unwrap_or (address_of s to) 0)) (item_spellings (of_message priority) bytes))))
