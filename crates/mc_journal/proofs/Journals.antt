-- Entries that are kept stand for the same lines when more is kept behind them.
use Rattle.std.proofs.Common.{Bool, true, false, cond, ◌≡◌, ℕ, ◌+◌, ◌-◌, ◌≤◌, List, [], ◌∷◌, ◌++◌, length, take, drop, map, Option, Some, None, refl, sym, ap, ◌∙◌, arith}
use Rattle.std.specs.List.{AllByRecursion}
use Rattle.std.specs.Prelude.{slice_get, slice_set}
use Rattle.std.proofs.lemmas.List.{take-append-le, drop-append-le, length-drop, length-map, map-set, map_push, take-map}
use Rattle.board_model.specs.Journal.{Line, PlainResult, brought, put_line, take_line, call_line, completes, gives, again_line, is_one_idle, joinable, noted_again, noted_idle, noted_spin, spinning, with_idle, with_spin}
use Rattle.mc_base.specs.declared.refusal.Refusal.{Refusal}
use Rattle.mc_journal.specs.declared.kept.Piece.{Piece}
use Rattle.mc_journal.specs.declared.kept.KeptResult.{KeptResult}
use Rattle.mc_journal.specs.declared.kept.KeptResult.TheVariants as result
use Rattle.mc_journal.specs.declared.kept.Kept.{Kept}
use Rattle.mc_journal.specs.declared.kept.Kept.TheVariants as kept
use Rattle.mc_journal.specs.declared.entry.Entry.{Entry}
use Rattle.mc_journal.specs.declared.entry.Entry.TheVariants as entry
use Rattle.mc_journal.specs.Kept.{AreWithin, IsResultWithin, IsWithin, kept_line, kept_result, piece_of}
use Rattle.mc_journal.specs.Entry.{IsPlain, line_of_entry, noted_entry}

-- ---- bytes behind the others

piece_of-append : (bytes more : List ℕ) (p : Piece) → p.start + p.len ≤ length bytes → piece_of (bytes ++ more) p ≡ piece_of bytes p
piece_of-append bytes more p within =
    let starts : p.start ≤ length bytes = omega arith in
    let fits : p.len ≤ length (drop p.start bytes) = omega (arith, length-drop p.start bytes) in
    ap (λ (xs : List ℕ). take p.len xs) (drop-append-le p.start bytes more starts) ∙ take-append-le p.len (drop p.start bytes) more fits

kept_result-append : (bytes more : List ℕ) (k : KeptResult) → IsResultWithin (length bytes) k → kept_result (bytes ++ more) k ≡ kept_result bytes k
kept_result-append bytes more (result.Address address) within = refl
kept_result-append bytes more result.Accepted within = refl
kept_result-append bytes more (result.Rejected reason) within = refl
kept_result-append bytes more (result.Bytes size p) within = ap (λ (xs : List ℕ). brought size xs) (piece_of-append bytes more p within)
kept_result-append bytes more (result.Ended word) within = refl

kept_line-append : (bytes more : List ℕ) (k : Kept) → IsWithin (length bytes) k → kept_line (bytes ++ more) k ≡ kept_line bytes k
kept_line-append bytes more kept.Turn within = refl
kept_line-append bytes more (kept.Back peer n) within = refl
kept_line-append bytes more (kept.Put peer p) within = ap (λ (xs : List ℕ). put_line peer xs) (piece_of-append bytes more p within)
kept_line-append bytes more (kept.See peer n) within = refl
kept_line-append bytes more (kept.Take peer p fate) within = ap (λ (xs : List ℕ). take_line peer xs fate) (piece_of-append bytes more p within)
kept_line-append bytes more (kept.Idle n) within = refl
kept_line-append bytes more (kept.Again word) within = refl
kept_line-append bytes more (kept.Spin n word) within = refl
kept_line-append bytes more (kept.WaitStart k) within = refl
kept_line-append bytes more (kept.Refused k word) within = refl
kept_line-append bytes more (kept.Agreed k) within = refl
kept_line-append bytes more (kept.Number k n) within = refl
kept_line-append bytes more (kept.Channel k request channel) within = refl
kept_line-append bytes more (kept.Bytes k size p) within = ap (λ (xs : List ℕ). call_line k (gives size xs)) (piece_of-append bytes more p within)
kept_line-append bytes more (kept.Done k place how) within = ap (λ (r : PlainResult). call_line k (completes place r)) (kept_result-append bytes more how within)

lines-append : (bytes more : List ℕ) (ks : List Kept) → AreWithin bytes ks → map (kept_line (bytes ++ more)) ks ≡ map (kept_line bytes) ks
lines-append bytes more [] within = refl
lines-append bytes more (k ∷ ks) within =
    let one = kept_line-append bytes more k within.0 in
    let rest = lines-append bytes more ks within.1 in
    cc

IsResultWithin-more : (m n : ℕ) (k : KeptResult) → m ≤ n → IsResultWithin m k → IsResultWithin n k
IsResultWithin-more m n (result.Address address) le within = tt
IsResultWithin-more m n result.Accepted le within = tt
IsResultWithin-more m n (result.Rejected reason) le within = tt
IsResultWithin-more m n (result.Bytes size p) le within = omega arith
IsResultWithin-more m n (result.Ended word) le within = tt

IsWithin-more : (m n : ℕ) (k : Kept) → m ≤ n → IsWithin m k → IsWithin n k
IsWithin-more m n kept.Turn le within = tt
IsWithin-more m n (kept.Back peer count) le within = tt
IsWithin-more m n (kept.Put peer p) le within = omega arith
IsWithin-more m n (kept.See peer count) le within = tt
IsWithin-more m n (kept.Take peer p fate) le within = omega arith
IsWithin-more m n (kept.Idle count) le within = tt
IsWithin-more m n (kept.Again word) le within = tt
IsWithin-more m n (kept.Spin count word) le within = tt
IsWithin-more m n (kept.WaitStart k) le within = tt
IsWithin-more m n (kept.Refused k word) le within = tt
IsWithin-more m n (kept.Agreed k) le within = tt
IsWithin-more m n (kept.Number k count) le within = tt
IsWithin-more m n (kept.Channel k request channel) le within = tt
IsWithin-more m n (kept.Bytes k size p) le within = omega arith
IsWithin-more m n (kept.Done k place how) le within = IsResultWithin-more m n how le within

pub AreWithin-push : (m n : ℕ) (ks : List Kept) (k : Kept) → m ≤ n → AllByRecursion (IsWithin m) ks → IsWithin n k → AllByRecursion (IsWithin n) (ks ++ k ∷ [])
AreWithin-push m n [] k le within last = (last, tt)
AreWithin-push m n (j ∷ ks) k le within last = (IsWithin-more m n j le within.0, AreWithin-push m n ks k le within.1 last)

-- ---- idle turns

pub idle-joins : (bytes : List ℕ) (ks : List Kept) (n i : ℕ) → i ≡ length ks - 1 → Some n ≡ joinable (slice_get (map (kept_line bytes) ks) (length ks - 1)) → map (kept_line bytes) (slice_set ks i (kept.Idle (n + 1))) ≡ noted_idle (map (kept_line bytes) ks)
idle-joins bytes ks n i at e =
    let len = length-map ks (kept_line bytes) in
    let e' : Some n ≡ joinable (slice_get (map (kept_line bytes) ks) (length (map (kept_line bytes) ks) - 1)) = rw len e in
    map-set (kept_line bytes) ks i (kept.Idle (n + 1)) ∙ rw (at, ← len) (ap (λ (o : Option ℕ). with_idle o (map (kept_line bytes) ks)) e')

pub idle-begins : (bytes : List ℕ) (ks : List Kept) → None ≡ joinable (slice_get (map (kept_line bytes) ks) (length ks - 1)) → map (kept_line bytes) (ks ++ kept.Idle 1 ∷ []) ≡ noted_idle (map (kept_line bytes) ks)
idle-begins bytes ks e =
    let len = length-map ks (kept_line bytes) in
    let e' : None ≡ joinable (slice_get (map (kept_line bytes) ks) (length (map (kept_line bytes) ks) - 1)) = rw len e in
    map_push (kept_line bytes) ks (kept.Idle 1) ∙ ap (λ (o : Option ℕ). with_idle o (map (kept_line bytes) ks)) e'

-- ---- calls that are made again

pub spin-joins : (bytes : List ℕ) (word : Refusal) (ks : List Kept) (n i : ℕ) → i ≡ length ks - 1 → Some n ≡ spinning word (slice_get (map (kept_line bytes) ks) (length ks - 1)) → map (kept_line bytes) (slice_set ks i (kept.Spin (n + 1) word)) ≡ noted_spin word (map (kept_line bytes) ks)
spin-joins bytes word ks n i at e =
    let len = length-map ks (kept_line bytes) in
    let e' : Some n ≡ spinning word (slice_get (map (kept_line bytes) ks) (length (map (kept_line bytes) ks) - 1)) = rw len e in
    map-set (kept_line bytes) ks i (kept.Spin (n + 1) word) ∙ rw (at, ← len) (ap (λ (o : Option ℕ). with_spin word o (map (kept_line bytes) ks)) e')

pub spin-begins : (bytes : List ℕ) (word : Refusal) (ks : List Kept) → None ≡ spinning word (slice_get (map (kept_line bytes) ks) (length ks - 1)) → map (kept_line bytes) (ks ++ kept.Spin 1 word ∷ []) ≡ noted_spin word (map (kept_line bytes) ks)
spin-begins bytes word ks e =
    let len = length-map ks (kept_line bytes) in
    let e' : None ≡ spinning word (slice_get (map (kept_line bytes) ks) (length (map (kept_line bytes) ks) - 1)) = rw len e in
    map_push (kept_line bytes) ks (kept.Spin 1 word) ∙ ap (λ (o : Option ℕ). with_spin word o (map (kept_line bytes) ks)) e'

abbrev again_by : Refusal → List Line → Bool → List Line
again_by word lines b = cond b (noted_spin word (take (length lines - 1) lines)) (lines ++ again_line word ∷ [])

-- after one idle turn, and else
pub again-spins : (bytes : List ℕ) (word : Refusal) (ks : List Kept) → true ≡ is_one_idle (slice_get (map (kept_line bytes) ks) (length ks - 1)) → noted_spin word (map (kept_line bytes) (take (length ks - 1) ks)) ≡ noted_again word (map (kept_line bytes) ks)
again-spins bytes word ks one =
    let lines = map (kept_line bytes) ks in
    let len = length-map ks (kept_line bytes) in
    let one' : true ≡ is_one_idle (slice_get lines (length lines - 1)) = rw len one in
    let front : map (kept_line bytes) (take (length ks - 1) ks) ≡ take (length lines - 1) lines = rw len (sym (take-map (kept_line bytes) (length ks - 1) ks)) in
    ap (λ (xs : List Line). noted_spin word xs) front ∙ ap (again_by word lines) one'

pub again-stands : (bytes : List ℕ) (word : Refusal) (ks : List Kept) → false ≡ is_one_idle (slice_get (map (kept_line bytes) ks) (length ks - 1)) → map (kept_line bytes) (ks ++ kept.Again word ∷ []) ≡ noted_again word (map (kept_line bytes) ks)
again-stands bytes word ks e =
    let len = length-map ks (kept_line bytes) in
    let e' : false ≡ is_one_idle (slice_get (map (kept_line bytes) ks) (length (map (kept_line bytes) ks) - 1)) = rw len e in
    map_push (kept_line bytes) ks (kept.Again word) ∙ ap (again_by word (map (kept_line bytes) ks)) e'

-- ---- any other entry

noted_entry-appends : (lines : List Line) (e : Entry) → IsPlain e → noted_entry lines (line_of_entry e) ≡ lines ++ line_of_entry e ∷ []
noted_entry-appends lines entry.Turn other = refl
noted_entry-appends lines (entry.Back peer n) other = refl
noted_entry-appends lines (entry.Put peer frame) other = refl
noted_entry-appends lines (entry.See peer n) other = refl
noted_entry-appends lines (entry.Take peer frame fate) other = refl
noted_entry-appends lines (entry.Idle n) other = absurd other
noted_entry-appends lines (entry.Again word) other = absurd other
noted_entry-appends lines (entry.Spin n word) other = refl
noted_entry-appends lines (entry.WaitStart k) other = refl
noted_entry-appends lines (entry.Called k a) other = refl

pub IsPlain-from : (e : Entry) → ((n : ℕ) → e ≡ entry.Idle n → ⊥) → ((word : Refusal) → e ≡ entry.Again word → ⊥) → IsPlain e
IsPlain-from entry.Turn h g = tt
IsPlain-from (entry.Back peer n) h g = tt
IsPlain-from (entry.Put peer frame) h g = tt
IsPlain-from (entry.See peer n) h g = tt
IsPlain-from (entry.Take peer frame fate) h g = tt
IsPlain-from (entry.Idle n) h g = h n refl
IsPlain-from (entry.Again word) h g = g word refl
IsPlain-from (entry.Spin n word) h g = tt
IsPlain-from (entry.WaitStart k) h g = tt
IsPlain-from (entry.Called k a) h g = tt

pub lines-push : (old new more : List ℕ) (ks : List Kept) (k : Kept) (e : Entry) → IsPlain e → AreWithin old ks → new ≡ old ++ more → kept_line new k ≡ line_of_entry e → map (kept_line new) (ks ++ k ∷ []) ≡ noted_entry (map (kept_line old) ks) (line_of_entry e)
lines-push old new more ks k e other within grown line =
    let pushed = map_push (kept_line new) ks k in
    let front : map (kept_line new) ks ≡ map (kept_line old) ks = rw grown (lines-append old more ks within) in
    let appended = noted_entry-appends (map (kept_line old) ks) e other in
    pushed ∙ rw (front, line) (sym appended)
