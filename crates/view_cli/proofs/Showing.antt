-- What was written, by the status.
use Rattle.std.proofs.Common.{◌≡◌, ◌≢◌, ◌≤◌, ℕ, Bool, true, false, List, [], cond, length, map, Result, Ok, Err, refl, sym, ◌∙◌, arith, inl, inr}
use Rattle.std.specs.Io.KnownBytes.{Appends}
use Rattle.std.specs.List.{flat_map}
use Rattle.std.specs.Prelude.{◌==◌, OnOk, OnErr}
use Rattle.std.proofs.KnownBytes.{Appends-nil}
use Rattle.outer_io.specs.Faults.{Rose}
use Rattle.outer_io.specs.declared.sink.Sink.{Ghosts as SinkGhosts}
use Rattle.outer_io.specs.declared.source.ReadFault.{ReadFault}
use Rattle.outer_io.specs.declared.source.ReadFault.TheVariants as fault
use Rattle.outer_io.specs.declared.source.Source.{Ghosts as SourceGhosts}
use Rattle.outer_io.specs.Writes.{Writes as WritesBytes}
use Rattle.report_view.specs.declared.view.DomainView.{DomainView}
use Rattle.report_view.specs.Texts.{WritesText}
use Rattle.view_cli.specs.declared.refused.RefusedCall.{RefusedCall}
use Rattle.view_cli.specs.RefusedCalls.{ListsRefused, place_of, refused_line, refused_of}
use Rattle.view_cli.specs.Statuses.{Writes, Shows, Ends, EndsOn, status_after}

-- after a write, by what it came to
pub writes_after : {K T E : Type 0} (sink : SinkGhosts K) (old new : K) (written : Result T E) (done status : ℕ) → WritesText sink old new written → OnOk written (status ≡ done) → OnErr written (status ≡ 5) → done ≢ 5 → Writes sink status old new
writes_after sink old new (Ok x) done status w ok err other = record {
  whole = λ is. (w.text, w.bytes);
  part = λ is. absurd (other (sym ok ∙ is));
  failed = λ is. absurd (other (sym ok ∙ is));
  quiet = λ is. w.cause.quiet;
}
writes_after sink old new (Err x) done status w ok err other = record {
  whole = λ is. absurd (is err);
  part = λ is. (w.text, w.bytes);
  failed = λ is. w.cause.failed;
  quiet = λ is. absurd (is err);
}

status_is : {T E : Type 0} (written : Result T E) (done status : ℕ) → OnOk written (status ≡ done) → OnErr written (status ≡ 5) → done ≤ 3 → done ≢ 2 → (status ≤ 5) × (status ≢ 2) × (status ≢ 4)
status_is (Ok x) done status ok err few other = (omega (arith, ok), λ is. other (sym ok ∙ is), λ is. omega (arith, ok, is))
status_is (Err x) done status ok err few other = (omega (arith, err), λ is. omega (arith, err, is), λ is. omega (arith, err, is))

pub shows_after : {K T E : Type 0} (sink : SinkGhosts K) (old new : K) (written : Result T E) (done status : ℕ) → WritesText sink old new written → OnOk written (status ≡ done) → OnErr written (status ≡ 5) → done ≤ 3 → done ≢ 2 → Shows sink status old new
shows_after sink old new written done status w ok err few other =
    let s = status_is written done status ok err few other in
    record {
      writes = writes_after sink old new written done status w ok err (λ is. omega (arith, few, is));
      most = omega (arith, s.0);
      form = s.1;
      read = s.2;
      nothing = λ is. absurd (omega (arith, s.0, is));
    }

-- nothing was written
pub writes_nothing : {K : Type 0} (sink : SinkGhosts K) (old : K) (status : ℕ) → status ≢ 5 → Writes sink status old old
writes_nothing sink old status other = record {
  whole = λ is. ([], Appends-nil (sink.written old));
  part = λ is. absurd (other is);
  failed = λ is. absurd (other is);
  quiet = λ is. refl;
}

pub shows_nothing : {K : Type 0} (sink : SinkGhosts K) (old : K) → Shows sink 6 old old
shows_nothing sink old = record {
  writes = writes_nothing sink old 6 (λ is. omega (arith, is));
  most = omega arith;
  form = λ is. omega (arith, is);
  read = λ is. omega (arith, is);
  nothing = λ is. refl;
}

-- where the input was read
pub ends_shown : {S K : Type 0} (source : SourceGhosts S) (sink : SinkGhosts K) (status : ℕ) (input input' : S) (old new : K) → source.faults input' ≡ source.faults input → Shows sink status old new → EndsOn source sink status input input' old new
ends_shown source sink status input input' old new same s = record {
  writes = s.writes;
  most = omega (arith, s.most);
  read_failed = λ is. absurd (s.read is);
  read = λ is. same;
  nothing = λ least other. s.nothing (six status s.most s.read least other);
}
  where
    six : (n : ℕ) → n ≤ 6 → n ≢ 4 → 4 ≤ n → n ≢ 5 → n ≡ 6
    six n most read least other = omega (arith, most, read, least, other)

-- where it was not
pub ends_unread : {S K : Type 0} (source : SourceGhosts S) (sink : SinkGhosts K) (status : ℕ) (input input' : S) (old : K) → status ≤ 7 → status ≢ 5 → (status ≡ 4 → Rose (source.faults input) (source.faults input')) → (status ≢ 4 → source.faults input' ≡ source.faults input) → EndsOn source sink status input input' old old
ends_unread source sink status input input' old most other failed read = record {
  writes = writes_nothing sink old status other;
  most = most;
  read_failed = failed;
  read = read;
  nothing = λ least is. refl;
}

unread_after : {T E : Type 0} (written : Result T E) (done status : ℕ) → OnOk written (status ≡ done) → OnErr written (status ≡ 5) → done ≤ 3 → (status ≤ 5) × (status ≢ 4)
unread_after (Ok x) done status ok err few = (omega (arith, ok, few), λ is. omega (arith, ok, few, is))
unread_after (Err x) done status ok err few = (omega (arith, err), λ is. omega (arith, err, is))

-- the same, by the fault of the read
pub ends_fault : {S K T : Type 0} (source : SourceGhosts S) (sink : SinkGhosts K) (f : ReadFault) (status : ℕ) (input input' : S) (old : K) → status ≡ status_after f → (◌≡◌ {A = Result T ReadFault} (Err f) (Err fault.Failed) → Rose (source.faults input) (source.faults input')) → ((◌≡◌ {A = Result T ReadFault} (Err f) (Err fault.Failed) → ⊥) → source.faults input' ≡ source.faults input) → EndsOn source sink status input input' old old
ends_fault source sink fault.Failed status input input' old is failed sound = ends_unread source sink status input input' old (omega (arith, is)) (λ five. omega (arith, is, five)) (λ four. failed refl) (λ other. absurd (other is))
ends_fault source sink fault.TooLong status input input' old is failed sound = ends_unread source sink status input input' old (omega (arith, is)) (λ five. omega (arith, is, five)) (λ four. absurd (omega (arith, is, four))) (λ other. sound (λ e. absurd cc))
ends_fault source sink fault.NoMemory status input input' old is failed sound = ends_unread source sink status input input' old (omega (arith, is)) (λ five. omega (arith, is, five)) (λ four. absurd (omega (arith, is, four))) (λ other. sound (λ e. absurd cc))

-- where nothing was to be read
pub ends_unasked : {S F K T E : Type 0} (source : SourceGhosts S) (files : SourceGhosts F) (sink : SinkGhosts K) (written : Result T E) (done status : ℕ) (input : S) (file : F) (old new : K) → WritesText sink old new written → OnOk written (status ≡ done) → OnErr written (status ≡ 5) → done ≤ 3 → Ends source files sink status input input file file old new
ends_unasked source files sink written done status input file old new w ok err few =
    let s = unread_after written done status ok err few in
    record {
      writes = writes_after sink old new written done status w ok err (λ is. omega (arith, few, is));
      most = omega (arith, s.0);
      read_failed = λ is. absurd (s.1 is);
      read = λ is. (refl, refl);
      nothing = λ least is. absurd (five status s.0 s.1 least is);
    }
  where
    five : (n : ℕ) → n ≤ 5 → n ≢ 4 → 4 ≤ n → n ≢ 5 → ⊥
    five n most read least other = omega (arith, most, read, least, other)

-- where the file was read, or was not to be
pub ends_with : {S F K : Type 0} (source : SourceGhosts S) (files : SourceGhosts F) (sink : SinkGhosts K) (status : ℕ) (input input' : S) (file file' : F) (old new : K) → files.faults file' ≡ files.faults file → EndsOn source sink status input input' old new → Ends source files sink status input input' file file' old new
ends_with source files sink status input input' file file' old new same e = record {
  writes = e.writes;
  most = e.most;
  read_failed = λ is. inl (e.read_failed is);
  read = λ is. (e.read is, same);
  nothing = e.nothing;
}

-- where it was not, and so nothing was read of the input
pub ends_without : {S F K : Type 0} (source : SourceGhosts S) (files : SourceGhosts F) (sink : SinkGhosts K) (status : ℕ) (input : S) (file file' : F) (old new : K) → EndsOn files sink status file file' old new → Ends source files sink status input input file file' old new
ends_without source files sink status input file file' old new e = record {
  writes = e.writes;
  most = e.most;
  read_failed = λ is. inr (e.read_failed is);
  read = λ is. (refl, e.read is);
  nothing = e.nothing;
}

-- a list of calls was written, by what the write came to
pub lists_after : {K T E : Type 0} (sink : SinkGhosts K) (old new : K) (written : Result T E) (domains : List DomainView) (calls : List RefusedCall) (done status : ℕ) → WritesBytes (sink.written old) (sink.written new) written (flat_map refused_line calls) → map place_of calls ≡ flat_map refused_of domains → done ≡ cond (length calls == 0) 0 1 → OnOk written (status ≡ done) → OnErr written (status ≡ 5) → status ≤ 3 → (text : List ℕ) × ListsRefused domains status text × Appends (sink.written old) (sink.written new) text
lists_after sink old new (Ok x) domains calls done status w all is ok err few = (flat_map refused_line calls, record { calls = calls; all = all; status_is = ok ∙ is; text_is = refl }, w)
lists_after sink old new (Err x) domains calls done status w all is ok err few = absurd (omega (arith, err, few))

-- the status by whether there are any
pub few_done : (t : Bool) (n : ℕ) → n ≡ cond t 0 1 → (n ≤ 3) × (n ≢ 2)
few_done true n e = (omega (arith, e), λ is. omega (arith, e, is))
few_done false n e = (omega (arith, e), λ is. omega (arith, e, is))

pub not_listed : {T E : Type 0} (written : Result T E) (status : ℕ) → OnOk written (status ≡ 3) → OnErr written (status ≡ 5) → status ≤ 1 → ⊥
not_listed (Ok x) status ok err few = omega (arith, ok, few)
not_listed (Err x) status ok err few = omega (arith, err, few)

-- after a fault of a read nothing of a report was shown
pub not_read : (f : ReadFault) (status : ℕ) → status ≡ status_after f → status ≤ 1 → ⊥
not_read fault.Failed status is few = omega (arith, is, few)
not_read fault.TooLong status is few = omega (arith, is, few)
not_read fault.NoMemory status is few = omega (arith, is, few)

pub not_usage : (f : ReadFault) (status : ℕ) → status ≡ status_after f → status ≢ 2
not_usage fault.Failed status is two = omega (arith, is, two)
not_usage fault.TooLong status is two = omega (arith, is, two)
not_usage fault.NoMemory status is two = omega (arith, is, two)
