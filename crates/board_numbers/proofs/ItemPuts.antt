-- Where a domain puts the items of a channel to one peer alone, its lines count them.
use Rattle.std.proofs.Common.{◌≡◌, ℕ, ◌+◌, Bool, true, false, cond, List, [], ◌∷◌, flat_map, refl, ◌∙◌, arith}
use Rattle.std.specs.Prelude.{count_by, ◌==◌}
use Rattle.std.proofs.lemmas.Bool.{eq-eqb}
use Rattle.board_model.specs.Journal.{PlainEntry, turned, put, again, waits, called, Visit, Taken, put_line, turn_line, taken_line, visit_lines, joined}
use Rattle.board_model.specs.Traffic.{visits_to, puts_in, put_to}
use Rattle.board_model.proofs.ListsCounts.{count-cons, count-append}
use Rattle.board_model.proofs.ListsJoined.{entry_lines}
use Rattle.board_model.proofs.MessageLines.{joined-count}
use Rattle.board_model.proofs.MessageVisitLines.{count-never, visit_lines_count}
use Rattle.board_numbers.specs.Items.{carries_item, is_item_put}

module _ (n : ℕ) where
  -- how many of these frames carry an item
  abbrev pub items_on : List (List ℕ) → ℕ
  items_on fs = count_by (carries_item n) fs

  abbrev owed : List Visit → List (List ℕ)
  owed vs = flat_map (λ (v : Visit). v.owed) vs

  module _ (q : ℕ) where
    abbrev Elsewhere : (ℕ → List (List ℕ)) → Type 0
    Elsewhere fs = (p : ℕ) → (p == q) ≡ false → items_on (fs p) ≡ 0

    -- ---- turns

    visit_items : (v : Visit) → count_by (is_item_put n) (visit_lines v) ≡ items_on v.owed
    visit_items v = omega (arith, visit_lines_count (is_item_put n) v (λ p k. refl) (λ p k. refl), count-never (λ (t : Taken). is_item_put n (taken_line v.peer t)) (λ t. refl) v.takes)

    tail_none : (b : Bool) (v : Visit) (ws : List Visit) → items_on (owed (cond b (v ∷ ws) ws)) ≡ 0 → items_on (owed ws) ≡ 0
    tail_none true v ws none = omega (arith, count-append (carries_item n) v.owed (owed ws), none)
    tail_none false v ws none = none

    head_none : (b : Bool) → b ≡ true → (v : Visit) (ws : List Visit) → items_on (owed (cond b (v ∷ ws) ws)) ≡ 0 → items_on v.owed ≡ 0
    head_none true is v ws none = omega (arith, count-append (carries_item n) v.owed (owed ws), none)
    head_none false is v ws none = absurd cc

    here : (b : Bool) (v : Visit) (ws : List Visit) (k : ℕ) → (b ≡ false → items_on v.owed ≡ 0) → k ≡ items_on (owed ws) → items_on v.owed + k ≡ items_on (owed (cond b (v ∷ ws) ws))
    here true v ws k off is = omega (arith, is, count-append (carries_item n) v.owed (owed ws))
    here false v ws k off is = omega (arith, is, off refl)

    visits_items : (vs : List Visit) → Elsewhere (λ p. puts_in p (turned vs)) → count_by (is_item_put n) (flat_map visit_lines vs) ≡ items_on (puts_in q (turned vs))
    visits_items [] none = refl
    visits_items (v ∷ vs) none =
        omega (
          arith,
          count-append (is_item_put n) (visit_lines v) (flat_map visit_lines vs),
          visit_items v,
          here (v.peer == q) v (visits_to q vs) (count_by (is_item_put n) (flat_map visit_lines vs)) (λ off. head_none (v.peer == v.peer) (eq-eqb v.peer v.peer refl) v (visits_to v.peer vs) (none v.peer off))
              (visits_items vs (λ p far. tail_none (v.peer == p) v (visits_to p vs) (none p far))),
        )

    -- ---- entries

    put_items : (b : Bool) (f : List ℕ) → (b ≡ false → items_on (f ∷ []) ≡ 0) → count_by (is_item_put n) (put_line 0 f ∷ []) ≡ items_on (cond b (f ∷ []) [])
    put_items true f off = omega (arith, count-cons (is_item_put n) (put_line 0 f) [], count-cons (carries_item n) f [])
    put_items false f off = omega (arith, count-cons (is_item_put n) (put_line 0 f) [], count-cons (carries_item n) f [], off refl)

    put_here : (b : Bool) → b ≡ true → (f : List ℕ) → items_on (cond b (f ∷ []) []) ≡ 0 → items_on (f ∷ []) ≡ 0
    put_here true is f none = none
    put_here false is f none = absurd cc

    entry_items : (e : PlainEntry) → Elsewhere (λ p. puts_in p e) → count_by (is_item_put n) (entry_lines e) ≡ items_on (puts_in q e)
    entry_items (turned vs) none = omega (arith, count-cons (is_item_put n) turn_line (flat_map visit_lines vs), visits_items vs none)
    entry_items (put p f) none = put_items (p == q) f (λ off. put_here (p == p) (eq-eqb p p refl) f (none p off))
    entry_items (again word) none = refl
    entry_items (waits k) none = refl
    entry_items (called k a) none = refl

    entries_items : (es : List PlainEntry) → Elsewhere (λ p. put_to p es) → count_by (is_item_put n) (flat_map entry_lines es) ≡ items_on (put_to q es)
    entries_items [] none = refl
    entries_items (e ∷ es) none =
        omega (
          arith,
          count-append (is_item_put n) (entry_lines e) (flat_map entry_lines es),
          entry_items e (λ p far. omega (arith, count-append (carries_item n) (puts_in p e) (put_to p es), none p far)),
          entries_items es (λ p far. omega (arith, count-append (carries_item n) (puts_in p e) (put_to p es), none p far)),
          count-append (carries_item n) (puts_in q e) (put_to q es),
        )

    pub items-put : (es : List PlainEntry) → Elsewhere (λ p. put_to p es) → count_by (is_item_put n) (joined es) ≡ items_on (put_to q es)
    items-put es none = joined-count (is_item_put n) (record { idle = λ k. refl; again = λ w. refl; spin = λ k w. refl; turn = refl }) es ∙ entries_items es none
