-- In how many frames an item goes, whether its lane has as many buffers free, and which frames they are.
use Rattle.std.proofs.Common.{◌≡◌, ℕ, ◌<◌, ◌≤◌, inl, inr, true, false, List, [], ◌∷◌, length, map, sym, ap, ◌∙◌, arith, subst, leb-true, leb-false, lt-ltb, le-ltb}
use Rattle.std.specs.Prelude.{nat_le, nat_lt}
use Rattle.std.specs.Int.{div_ceil}
use Rattle.std.proofs.lemmas.Bool.{cases_Bool}
use Rattle.mc_base.specs.Frame.{made}
use Rattle.mc_base.specs.Letter.{piece_spelling, saying_text, whole}
use Rattle.mc_base.specs.Limits.{piece_size, single_size, item_size}
use Rattle.mc_base.specs.Pieces.{frames_needed, parts_count, parts_from}
use Rattle.board_model.specs.Answer.{lacks_buffers, passes_lane, put_as, puts_of}
use Rattle.board_model.specs.State.{DomainState, free_to, size_to}
use Rattle.domain_parts.specs.Outgoing.{NeedsParts, letter_of, parts_put, post_of}
use Rattle.domain_parts.specs.Pieces.{carrier_in}
use Rattle.domain_parts.specs.declared.outgoing.Outgoing.{Outgoing}
use Rattle.domain_parts.proofs.Cutting.{ceil-count, needs-parts, part-frames, part-spellings, single-spelling}
use Rattle.domain_parts.proofs.Posting.{posted-lacks, posted-passes}

-- so many frames were counted for an item
module _ (o : Outgoing) (count : ℕ) (single : length o.bytes.now ≤ single_size → count ≡ 1) (parts : single_size < length o.bytes.now → count ≡ div_ceil (length o.bytes.now) piece_size) where
  pub frames-counted : count ≡ frames_needed (letter_of o)
  frames-counted = elim (cases_Bool (nat_le (length o.bytes.now) single_size)) [
    | inl short ↦
        let fits = leb-true (length o.bytes.now) single_size short in
        single fits ∙ sym (ap (λ (ps : List (List ℕ)). length ps) (single-spelling (carrier_in o.carrier) o.bytes.now fits))
    | inr long ↦
        let more = leb-false (length o.bytes.now) single_size long in
        parts more ∙ ceil-count (length o.bytes.now) ∙ sym (part-frames (carrier_in o.carrier) o.bytes.now more)
  ]

  -- whether buffers are free for them
  pub frames-lack : (s : DomainState) → free_to s o.peer < count → true ≡ lacks_buffers s (puts_of (post_of o))
  frames-lack s few = let is = frames-counted in sym (posted-lacks s (post_of o) ∙ lt-ltb (free_to s o.peer) (frames_needed (letter_of o)) (omega (arith, is, few)))

  pub frames-fit : (s : DomainState) → count ≤ free_to s o.peer → false ≡ lacks_buffers s (puts_of (post_of o))
  frames-fit s enough = let is = frames-counted in sym (posted-lacks s (post_of o) ∙ le-ltb (free_to s o.peer) (frames_needed (letter_of o)) (omega (arith, is, enough)))

  -- whether the lane has so many buffers at all
  pub frames-pass : (s : DomainState) → nat_lt (size_to s o.peer) count ≡ passes_lane s (puts_of (post_of o))
  frames-pass s = ap (nat_lt (size_to s o.peer)) frames-counted ∙ sym (posted-passes s (post_of o))

  -- one frame carries all its bytes
  pub one-carries : count ≤ 1 → length o.bytes.now ≤ single_size
  one-carries one = elim (cases_Bool (nat_le (length o.bytes.now) single_size)) [
    | inl short ↦ leb-true (length o.bytes.now) single_size short
    | inr long ↦
        let more = leb-false (length o.bytes.now) single_size long in
        let is = parts more ∙ ceil-count (length o.bytes.now) in
        absurd (omega (arith, more, is, one))
  ]

  -- more are its parts
  module _ (more : 1 < count) where
    long : single_size < length o.bytes.now
    long = elim (cases_Bool (nat_le (length o.bytes.now) single_size)) [
      | inl short ↦ let is = single (leb-true (length o.bytes.now) single_size short) in absurd (omega (arith, is, more))
      | inr past ↦ leb-false (length o.bytes.now) single_size past
    ]

    parts-many : count ≡ parts_count (length o.bytes.now)
    parts-many = parts long ∙ ceil-count (length o.bytes.now)

    pub counted-needs : NeedsParts piece_size count (length o.bytes.now)
    counted-needs = subst (λ (n : ℕ). NeedsParts piece_size n (length o.bytes.now)) (sym parts-many) (needs-parts (length o.bytes.now))

    pub counted-few : length o.bytes.now ≤ item_size → count ≤ 17
    counted-few short = let is = parts-many in omega (arith, is, short)

    pub counted-puts : parts_put piece_size count o ≡ puts_of (post_of o)
    counted-puts =
        ap (λ (n : ℕ). map (put_as (post_of o)) (map piece_spelling (parts_from piece_size (carrier_in o.carrier) (length o.bytes.now) n 0 o.bytes.now))) parts-many
        ∙ ap (map (put_as (post_of o))) (sym (part-spellings (carrier_in o.carrier) o.bytes.now long))

pub single-puts : (o : Outgoing) → length o.bytes.now ≤ single_size → (o.peer, made o.source o.destination (saying_text (whole (letter_of o)))) ∷ [] ≡ puts_of (post_of o)
single-puts o short = ap (map (put_as (post_of o))) (sym (single-spelling (carrier_in o.carrier) o.bytes.now short))
