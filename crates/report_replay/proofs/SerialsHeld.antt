-- The serials that are held for labels, and the lists of them.
use Rattle.std.proofs.Common.{◌≡◌, ℕ, Bool, true, false, cond, List, [], ◌∷◌, ◌++◌, map, Option, Some, None, option_map, option_and_then, refl, sym, ap, subst, ◌∙◌, true≢false}
use Rattle.std.specs.Prelude.{find, is_some, option_copied}
use Rattle.std.specs.Borrow.{Bor}
use Rattle.std.specs.Option.{option_or}
use Rattle.std.specs.Str.{bytes_eq}
use Rattle.std.specs.Map.{update}
use Rattle.std.proofs.lemmas.Slice.Eq.{bytes_eq-Decides}
use Rattle.board_model.specs.declared.scenario.Call.{Call}
use Rattle.board_model.specs.declared.scenario.Call.TheVariants.{WaitAny}
use Rattle.board_model.specs.DomainCall.{DomainCall}
use Rattle.board_model.specs.State.{DomainState, place_of_request}
use Rattle.board_model.specs.Answer.{is_complete_at, refusal, unless_refused}
use Rattle.board_model.specs.Labels as plain
use Rattle.board_model.specs.Labels.{Labelled, serial_of, with_label, is_complete_label, lending_label}
use Rattle.board_model.proofs.ListsMapped.{find-alike}
use Rattle.report_replay.specs.declared.labels.Labels.{Labels}
use Rattle.report_replay.specs.HeldLabels.{Serials, serial_for, HoldsSerials, HoldLabels, TellsSerial, request_by, lending_by}

-- ---- one label more

same_serial : (serials : Serials) (label other : List ℕ) → bytes_eq label other ≡ true → serial_for serials label ≡ serial_for serials other
same_serial serials label other e = ap (serial_for serials) ((bytes_eq-Decides label other).0 e)

-- none was held for the label
pub told_new : (old new : Serials) (label : List ℕ) (n : ℕ) → is_some (serial_for old label) ≡ false → ((other : List ℕ) → serial_for new other ≡ update bytes_eq (serial_for old) label (Some n) other) → TellsSerial (Some label) (Some n) old new
told_new old new label n none updated other = updated other ∙ go (bytes_eq label other) (serial_for old other) (λ e. sym (ap is_some (same_serial old label other e)) ∙ none)
  where
    go : (b : Bool) (o : Option ℕ) → (b ≡ true → is_some o ≡ false) → cond b (Some n) o ≡ option_or o (cond b (Some n) None)
    go false None absent = refl
    go false (Some m) absent = refl
    go true None absent = refl
    go true (Some m) absent = absurd (true≢false (absent refl))

-- a list with one more
serial_last : (ls : List Labelled) (label : List ℕ) (n : ℕ) (other : List ℕ) → serial_of (ls ++ record { label = label; serial = n } ∷ []) other ≡ option_or (serial_of ls other) (cond (bytes_eq label other) (Some n) None)
serial_last [] label n other = go (bytes_eq label other)
  where
    go : (b : Bool) → option_map (λ (l : Labelled). l.serial) (cond b (Some (record { label = label; serial = n })) None) ≡ option_or None (cond b (Some n) None)
    go true = refl
    go false = refl
serial_last (l ∷ ls) label n other = go (serial_last ls label n other) (bytes_eq l.label other)
  where
    last : List Labelled
    last = record { label = label; serial = n } ∷ []

    is : Labelled → Bool
    is k = bytes_eq k.label other

    told : Option ℕ
    told = cond (bytes_eq label other) (Some n) None

    go : option_map (λ (k : Labelled). k.serial) (find is (ls ++ last)) ≡ option_or (option_map (λ (k : Labelled). k.serial) (find is ls)) told → (b : Bool) → option_map (λ (k : Labelled). k.serial) (cond b (Some l) (find is (ls ++ last))) ≡ option_or (option_map (λ (k : Labelled). k.serial) (cond b (Some l) (find is ls))) told
    go rest true = refl
    go rest false = rest

or_none : (o : Option ℕ) → option_or o None ≡ o
or_none None = refl
or_none (Some n) = refl

-- what is held stays along with the list
held_after : (old new : Serials) (ls : List Labelled) (label : Option (List ℕ)) (serial : Option ℕ) → HoldsSerials old ls → TellsSerial label serial old new → HoldsSerials new (with_label ls label serial)
held_after old new ls None serial held tells other = tells other ∙ or_none (serial_for old other) ∙ held other
held_after old new ls (Some label) None held tells other = tells other ∙ or_none (serial_for old other) ∙ held other
held_after old new ls (Some label) (Some n) held tells other = tells other ∙ ap (λ o. option_or o (cond (bytes_eq label other) (Some n) None)) (held other) ∙ sym (serial_last ls label n other)

pub held_with : (old new : Serials) (ls : List Labelled) (label line : Option (List ℕ)) (serial given : Option ℕ) → label ≡ line → serial ≡ given → HoldsSerials old ls → TellsSerial label serial old new → HoldsSerials new (with_label ls line given)
held_with old new ls label line serial given is gives held tells =
    subst (λ l. HoldsSerials new (with_label ls l given)) is (subst (λ n. HoldsSerials new (with_label ls label n)) gives (held_after old new ls label serial held tells))

pub copied-map : {A B : Type 0} (f : A → B) (o : Option (Bor A)) → option_map (λ x. f x.now) o ≡ option_map f (option_copied o)
copied-map f None = refl
copied-map f (Some x) = refl

-- ---- the label that a packet is lent under

pub lending_held : (held : Labels) (ls : plain.Labels) (s : DomainState) (call : Call) (own : Option (List ℕ)) → HoldLabels held ls → lending_by held s call own ≡ lending_label ls s call own
lending_held held ls s (WaitAny names limit) own h =
    find-alike (λ label. is_complete_at s (request_by held s label)) (is_complete_label ls s) (λ label. ap (λ o. is_complete_at s (option_and_then (place_of_request s) o)) (h.requests label)) (map (λ l. l.items) names.items)
lending_held held ls s other own h = refl

-- ---- where a call is not refused

pub not_refused : {A : Type 0} (s : DomainState) (node : ℕ) (call same : DomainCall) (given : DomainCall → Option A) → call ≡ same → refusal s node call ≡ None → unless_refused (refusal s node same) None (given same) ≡ given call
not_refused s node call same given is none =
    ap (λ r. unless_refused r None (given same)) (ap (refusal s node) (sym is) ∙ none) ∙ ap given (sym is)
