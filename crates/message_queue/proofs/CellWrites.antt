-- What a write to one field of a cell leaves of the columns.
use Rattle.std.proofs.Common.{◌≡◌, ℕ, List, map, get_or, set, sym, ap, ◌∙◌}
use Rattle.std.proofs.lemmas.List.{map-set, set-get_or}
use Rattle.message_queue.specs.declared.entry.Entry.{Entry}
use Rattle.message_queue.specs.declared.cells.Cell.{Cell}
use Rattle.message_queue.specs.Queue.{Waiting}
use Rattle.message_queue.specs.Cells.{Columns, columns_of, waiting_of, with_next, with_same, with_held}

unchanged : {X : Type 0} (f : Cell → X) (cs : List Cell) (i : ℕ) (x : Cell) → x ≡ get_or cs i x → set (map f cs) i (f x) ≡ map f cs
unchanged f cs i x is = sym (map-set f cs i x) ∙ ap (map f) (ap (set cs i) is ∙ set-get_or cs i x)

abbrev columns_from : List ℕ → List ℕ → List ℕ → List Waiting → Columns
columns_from next prev same held = record { next = next; prev = prev; same = same; held = held }

columns : (next next' prev prev' same same' : List ℕ) (held held' : List Waiting) → next ≡ next' → prev ≡ prev' → same ≡ same' → held ≡ held' → columns_from next prev same held ≡ columns_from next' prev' same' held'
columns next next' prev prev' same same' held held' n p s h = cc

pub written-next : (cs : List Cell) (i v : ℕ) (x : Cell) → x ≡ get_or cs i x → columns_of (set cs i (record x { next = v })) ≡ with_next (columns_of cs) i v
written-next cs i v x is =
    columns _ _ _ _ _ _ _ _
    (map-set (λ (c : Cell). c.next) cs i (record x { next = v }))
    (map-set (λ (c : Cell). c.prev) cs i (record x { next = v }) ∙ unchanged (λ (c : Cell). c.prev) cs i x is)
    (map-set (λ (c : Cell). c.same) cs i (record x { next = v }) ∙ unchanged (λ (c : Cell). c.same) cs i x is)
    (map-set (λ (c : Cell). waiting_of c.entry) cs i (record x { next = v }) ∙ unchanged (λ (c : Cell). waiting_of c.entry) cs i x is)

abbrev pub with_prev : Columns → ℕ → ℕ → Columns
with_prev c place before = record c { prev = set c.prev place before }

pub written-prev : (cs : List Cell) (i v : ℕ) (x : Cell) → x ≡ get_or cs i x → columns_of (set cs i (record x { prev = v })) ≡ with_prev (columns_of cs) i v
written-prev cs i v x is =
    columns _ _ _ _ _ _ _ _
    (map-set (λ (c : Cell). c.next) cs i (record x { prev = v }) ∙ unchanged (λ (c : Cell). c.next) cs i x is)
    (map-set (λ (c : Cell). c.prev) cs i (record x { prev = v }))
    (map-set (λ (c : Cell). c.same) cs i (record x { prev = v }) ∙ unchanged (λ (c : Cell). c.same) cs i x is)
    (map-set (λ (c : Cell). waiting_of c.entry) cs i (record x { prev = v }) ∙ unchanged (λ (c : Cell). waiting_of c.entry) cs i x is)

pub written-same : (cs : List Cell) (i v : ℕ) (x : Cell) → x ≡ get_or cs i x → columns_of (set cs i (record x { same = v })) ≡ with_same (columns_of cs) i v
written-same cs i v x is =
    columns _ _ _ _ _ _ _ _
    (map-set (λ (c : Cell). c.next) cs i (record x { same = v }) ∙ unchanged (λ (c : Cell). c.next) cs i x is)
    (map-set (λ (c : Cell). c.prev) cs i (record x { same = v }) ∙ unchanged (λ (c : Cell). c.prev) cs i x is)
    (map-set (λ (c : Cell). c.same) cs i (record x { same = v }))
    (map-set (λ (c : Cell). waiting_of c.entry) cs i (record x { same = v }) ∙ unchanged (λ (c : Cell). waiting_of c.entry) cs i x is)

pub written-held : (cs : List Cell) (i : ℕ) (e : Entry) (x : Cell) → x ≡ get_or cs i x → columns_of (set cs i (record x { entry = e; same = 0 })) ≡ with_held (columns_of cs) i (waiting_of e)
written-held cs i e x is =
    columns _ _ _ _ _ _ _ _
    (map-set (λ (c : Cell). c.next) cs i (record x { entry = e; same = 0 }) ∙ unchanged (λ (c : Cell). c.next) cs i x is)
    (map-set (λ (c : Cell). c.prev) cs i (record x { entry = e; same = 0 }) ∙ unchanged (λ (c : Cell). c.prev) cs i x is)
    (map-set (λ (c : Cell). c.same) cs i (record x { entry = e; same = 0 }))
    (map-set (λ (c : Cell). waiting_of c.entry) cs i (record x { entry = e; same = 0 }))
