-- What a form does with what a source has to come: what it does with the bytes that were read, or how the reading ended.
use Rattle.std.proofs.Common.{◌≡◌, ◌≢◌, inl, inr, ℕ, ◌≤◌, ◌<◌, List, [], ◌∷◌, length, Option, Some, None, refl, sym, ◌∙◌, arith}
use Rattle.std.specs.Prelude.{IfSome}
use Rattle.std.specs.Io.KnownBytes.{Appends, Consumes, IsAtEnd}
use Rattle.outer_io.specs.declared.sink.Sink.{Ghosts as SinkGhosts}
use Rattle.outer_io.specs.declared.source.Source.{Ghosts as SourceGhosts}
use Rattle.outer_io.specs.declared.source.ReadFault.{ReadFault}
use Rattle.outer_io.specs.declared.source.ReadFault.TheVariants.{Failed, TooLong, NoMemory}
use Rattle.outer_io.specs.Faults.{Rose}
use Rattle.outer_io.specs.Calls.{CountsOne, ReadsStop}
use Rattle.scenario_cli.specs.declared.form.Form.{Form}
use Rattle.scenario_cli.specs.Words.{IsOneOf, limit_of}
use Rattle.scenario_cli.specs.Answers.{Sort, good, bad, other_sort, status_for, status_after, IsOfSort, IsAnswer, IsDue, Stops, Tells, OfInput, Answers, Ends}
use Rattle.scenario_cli.proofs.Inputs.{if_text}
use Rattle.scenario_cli.proofs.Telling.{bad-is, never, never-six}

never-four : (form : Form) (sort : Sort) → status_for form sort ≢ 4
never-four form sort = never form sort 4 (λ e. omega (arith, e)) (λ e. omega (arith, e)) (λ e. omega (arith, e))

never-seven : (form : Form) (sort : Sort) → status_for form sort ≢ 7
never-seven form sort = never form sort 7 (λ e. omega (arith, e)) (λ e. omega (arith, e)) (λ e. omega (arith, e))

-- one of the four statuses behind a reading is one of all, and is neither 4 nor 7
more-statuses : (form : Form) (status : ℕ) → IsOneOf (0 ∷ status_for form bad ∷ 5 ∷ 6 ∷ []) status → IsOneOf (0 ∷ status_for form bad ∷ 4 ∷ 5 ∷ 6 ∷ 7 ∷ []) status
more-statuses form status (inl e) = inl e
more-statuses form status (inr (inl e)) = inr (inl e)
more-statuses form status (inr (inr (inl e))) = inr (inr (inr (inl e)))
more-statuses form status (inr (inr (inr (inl e)))) = inr (inr (inr (inr (inl e))))
more-statuses form status (inr (inr (inr (inr h)))) = absurd h

read-not : (form : Form) (status n : ℕ) → ((sort : Sort) → status_for form sort ≢ n) → 5 ≢ n → 6 ≢ n → IsOneOf (0 ∷ status_for form bad ∷ 5 ∷ 6 ∷ []) status → status ≢ n
read-not form status n never five six (inl e) is = never good (sym e ∙ is)
read-not form status n never five six (inr (inl e)) is = never bad (sym e ∙ is)
read-not form status n never five six (inr (inr (inl e))) is = five (sym e ∙ is)
read-not form status n never five six (inr (inr (inr (inl e)))) is = six (sym e ∙ is)
read-not form status n never five six (inr (inr (inr (inr h)))) is = h

-- where it is not that of the other sort, it is that of this one, or 5 or 6
left-for : (form : Form) (sort : Sort) (status : ℕ) → IsOneOf (0 ∷ status_for form bad ∷ 5 ∷ 6 ∷ []) status → status ≢ status_for form (other_sort sort) → IsOneOf (status_for form sort ∷ 4 ∷ 5 ∷ 6 ∷ []) status
left-for form good status (inl e) other = inl e
left-for form good status (inr (inl e)) other = absurd (other e)
left-for form bad status (inl e) other = absurd (other e)
left-for form bad status (inr (inl e)) other = inl e
left-for form sort status (inr (inr (inl e))) other = inr (inr (inl e))
left-for form sort status (inr (inr (inr (inl e)))) other = inr (inr (inr (inl e)))
left-for form sort status (inr (inr (inr (inr h)))) other = absurd h

-- a status for some sort
for-sort : (form : Form) (status : ℕ) → IsOneOf (0 ∷ status_for form bad ∷ []) status → (sort : Sort) × (status ≡ status_for form sort)
for-sort form status (inl e) = (good, e)
for-sort form status (inr (inl e)) = (bad, e)
for-sort form status (inr (inr h)) = absurd h

all-statuses : (form : Form) (status : ℕ) → IsOneOf (0 ∷ status_for form bad ∷ 4 ∷ 5 ∷ 6 ∷ 7 ∷ []) status → IsOneOf (0 ∷ 1 ∷ 2 ∷ 3 ∷ 4 ∷ 5 ∷ 6 ∷ 7 ∷ []) status
all-statuses form status (inl e) = inl e
all-statuses form status (inr (inl e)) = go (bad-is form)
  where
    go : IsOneOf (1 ∷ 3 ∷ []) (status_for form bad) → IsOneOf (0 ∷ 1 ∷ 2 ∷ 3 ∷ 4 ∷ 5 ∷ 6 ∷ 7 ∷ []) status
    go (inl one) = inr (inl (e ∙ one))
    go (inr (inl three)) = inr (inr (inr (inl (e ∙ three))))
    go (inr (inr h)) = absurd h
all-statuses form status (inr (inr (inl e))) = inr (inr (inr (inr (inl e))))
all-statuses form status (inr (inr (inr (inl e)))) = inr (inr (inr (inr (inr (inl e)))))
all-statuses form status (inr (inr (inr (inr (inl e))))) = inr (inr (inr (inr (inr (inr (inl e))))))
all-statuses form status (inr (inr (inr (inr (inr (inl e)))))) = inr (inr (inr (inr (inr (inr (inr (inl e)))))))
all-statuses form status (inr (inr (inr (inr (inr (inr h)))))) = absurd h

none-of : (status : ℕ) → status ≢ 4 → status ≢ 6 → status ≢ 7 → IsOneOf (4 ∷ 6 ∷ 7 ∷ []) status → ⊥
none-of status four six seven (inl e) = four e
none-of status four six seven (inr (inl e)) = six e
none-of status four six seven (inr (inr (inl e))) = seven e
none-of status four six seven (inr (inr (inr h))) = h

too-long-differs : TooLong ≡ Failed → ⊥
too-long-differs e = absurd cc

memory-differs : NoMemory ≡ Failed → ⊥
memory-differs e = absurd cc

module _ {S K : Type 0} (source : SourceGhosts S) (sink : SinkGhosts K) (form : Form) where
  -- the input was read to its end, and this was done with it
  module _ (status : ℕ) (input input' : S) (old new : K) (text : List ℕ) (read : Consumes (source.rest input) (source.rest input') text) (end : IsAtEnd (source.rest input')) (within : length text ≤ limit_of form) (once : CountsOne (source.ends input) (source.ends input')) (told : Tells sink form text status old new) where
    of-text : (Q : List ℕ → Type 0) → Q text → OfInput form (source.rest input) Q
    of-text Q h = if_text (source.rest input) (source.rest input') text (λ t. (length t ≤ limit_of form) × Q t) read end (within, h)

    pub read-answers : Answers source sink form status input input' old new
    read-answers = record {
      statuses = more-statuses form status told.statuses;
      whole = λ sort is. of-text (λ t. (output : List ℕ) × IsAnswer form sort t output × Appends (sink.written old) (sink.written new) output) (told.whole sort is);
      read_to_end = λ is. end;
      end_once = λ is. once;
      exact = λ sort. if_text (source.rest input) (source.rest input') text (λ t. length t ≤ limit_of form → IsOfSort form sort t → IsOneOf (status_for form sort ∷ 4 ∷ 5 ∷ 6 ∷ []) status) read end (λ fits of. left-for form sort status told.statuses (told.exact sort of));
      reads_stop = λ four. absurd (read-not form status 4 (never-four form) (λ e. omega (arith, e)) (λ e. omega (arith, e)) told.statuses four);
      writes_stop = λ five. of-text (λ t. (output : List ℕ) × IsDue form t output × Stops sink old new output) (told.stops five);
      too_long = λ seven. absurd (read-not form status 7 (never-seven form) (λ e. omega (arith, e)) (λ e. omega (arith, e)) told.statuses seven);
      over_limit = if_text (source.rest input) (source.rest input') text (λ t. limit_of form < length t → IsOneOf (4 ∷ 6 ∷ 7 ∷ []) status) read end (λ over. absurd (omega (arith, over, within)));
    }

    pub read-ends : source.faults input' ≡ source.faults input → Ends source sink status input input' old new
    read-ends quiet = record {
      statuses = all-statuses form status (more-statuses form status told.statuses);
      read_failed = λ four. absurd (read-not form status 4 (never-four form) (λ e. omega (arith, e)) (λ e. omega (arith, e)) told.statuses four);
      no_read_failed = λ other. quiet;
      sound_source = λ sound four. read-not form status 4 (never-four form) (λ e. omega (arith, e)) (λ e. omega (arith, e)) told.statuses four;
      write_failed = told.rose;
      no_write_failed = told.quiet;
      nothing_written = λ is. at-six is;
      read_faults = omega (arith, quiet);
      write_faults = told.later;
    }
      where
        at-six : IsOneOf (4 ∷ 6 ∷ 7 ∷ []) status → new ≡ old
        at-six (inl four) = absurd (read-not form status 4 (never-four form) (λ e. omega (arith, e)) (λ e. omega (arith, e)) told.statuses four)
        at-six (inr (inl six)) = told.nothing six
        at-six (inr (inr (inl seven))) = absurd (read-not form status 7 (never-seven form) (λ e. omega (arith, e)) (λ e. omega (arith, e)) told.statuses seven)
        at-six (inr (inr (inr h))) = absurd h

  -- ---- the reading ended otherwise, and nothing was written

  module _ (input input' : S) (old : K) where
    pub failed-answers : ReadsStop (source.rest input) (source.rest input') (source.calls input) (source.calls input') (limit_of form) → Answers source sink form 4 input input' old old
    failed-answers stop = record {
      statuses = inr (inr (inl refl));
      whole = λ sort is. absurd (never-four form sort (sym is));
      read_to_end = λ is. let at = for-sort form 4 is in absurd (never-four form at.0 (sym at.1));
      end_once = λ is. let at = for-sort form 4 is in absurd (never-four form at.0 (sym at.1));
      exact = λ sort. each (source.rest input) (λ t. length t ≤ limit_of form → IsOfSort form sort t → IsOneOf (status_for form sort ∷ 4 ∷ 5 ∷ 6 ∷ []) 4) (λ t fits of. inr (inl refl));
      reads_stop = λ four. stop;
      writes_stop = λ five. absurd (omega (arith, five));
      too_long = λ seven. absurd (omega (arith, seven));
      over_limit = each (source.rest input) (λ t. limit_of form < length t → IsOneOf (4 ∷ 6 ∷ 7 ∷ []) 4) (λ t over. inl refl);
    }
      where
        each : (o : Option (List ℕ)) (P : List ℕ → Type 0) → ((t : List ℕ) → P t) → IfSome o P
        each None P h = tt
        each (Some t) P h = h t

    pub memory-answers : Answers source sink form 6 input input' old old
    memory-answers = record {
      statuses = inr (inr (inr (inr (inl refl))));
      whole = λ sort is. absurd (never-six form sort (sym is));
      read_to_end = λ is. let at = for-sort form 6 is in absurd (never-six form at.0 (sym at.1));
      end_once = λ is. let at = for-sort form 6 is in absurd (never-six form at.0 (sym at.1));
      exact = λ sort. each (source.rest input) (λ t. length t ≤ limit_of form → IsOfSort form sort t → IsOneOf (status_for form sort ∷ 4 ∷ 5 ∷ 6 ∷ []) 6) (λ t fits of. inr (inr (inr (inl refl))));
      reads_stop = λ four. absurd (omega (arith, four));
      writes_stop = λ five. absurd (omega (arith, five));
      too_long = λ seven. absurd (omega (arith, seven));
      over_limit = each (source.rest input) (λ t. limit_of form < length t → IsOneOf (4 ∷ 6 ∷ 7 ∷ []) 6) (λ t over. inr (inl refl));
    }
      where
        each : (o : Option (List ℕ)) (P : List ℕ → Type 0) → ((t : List ℕ) → P t) → IfSome o P
        each None P h = tt
        each (Some t) P h = h t

    pub long-answers : IfSome (source.rest input) (λ t. limit_of form < length t) → Answers source sink form 7 input input' old old
    long-answers over = record {
      statuses = inr (inr (inr (inr (inr (inl refl)))));
      whole = λ sort is. absurd (never-seven form sort (sym is));
      read_to_end = λ is. let at = for-sort form 7 is in absurd (never-seven form at.0 (sym at.1));
      end_once = λ is. let at = for-sort form 7 is in absurd (never-seven form at.0 (sym at.1));
      exact = λ sort. short (source.rest input) sort over;
      reads_stop = λ four. absurd (omega (arith, four));
      writes_stop = λ five. absurd (omega (arith, five));
      too_long = λ seven. over;
      over_limit = each (source.rest input);
    }
      where
        each : (o : Option (List ℕ)) → IfSome o (λ t. limit_of form < length t → IsOneOf (4 ∷ 6 ∷ 7 ∷ []) 7)
        each None = tt
        each (Some t) = λ long. inr (inr (inl refl))

        short : (o : Option (List ℕ)) (sort : Sort) → IfSome o (λ t. limit_of form < length t) → IfSome o (λ t. length t ≤ limit_of form → IsOfSort form sort t → IsOneOf (status_for form sort ∷ 4 ∷ 5 ∷ 6 ∷ []) 7)
        short None sort long = tt
        short (Some t) sort long = λ fits of. absurd (omega (arith, long, fits))

    -- with the status of such an end
    pub stopped-ends : (status : ℕ) → IsOneOf (4 ∷ 6 ∷ 7 ∷ []) status → (status ≡ 4 → Rose (source.faults input) (source.faults input')) → (status ≢ 4 → source.faults input' ≡ source.faults input) → (source.never_fails input → status ≢ 4) → source.faults input ≤ source.faults input' → Ends source sink status input input' old old
    stopped-ends status is rose quiet sound later = record {
      statuses = all is;
      read_failed = rose;
      no_read_failed = quiet;
      sound_source = sound;
      write_failed = λ five. absurd (not-five is five);
      no_write_failed = λ other. refl;
      nothing_written = λ at. refl;
      read_faults = later;
      write_faults = omega arith;
    }
      where
        all : IsOneOf (4 ∷ 6 ∷ 7 ∷ []) status → IsOneOf (0 ∷ 1 ∷ 2 ∷ 3 ∷ 4 ∷ 5 ∷ 6 ∷ 7 ∷ []) status
        all (inl e) = inr (inr (inr (inr (inl e))))
        all (inr (inl e)) = inr (inr (inr (inr (inr (inr (inl e))))))
        all (inr (inr (inl e))) = inr (inr (inr (inr (inr (inr (inr (inl e)))))))
        all (inr (inr (inr h))) = absurd h

        not-five : IsOneOf (4 ∷ 6 ∷ 7 ∷ []) status → status ≢ 5
        not-five (inl e) five = let no : 4 ≡ 5 = sym e ∙ five in omega (arith, no)
        not-five (inr (inl e)) five = let no : 6 ≡ 5 = sym e ∙ five in omega (arith, no)
        not-five (inr (inr (inl e))) five = let no : 7 ≡ 5 = sym e ∙ five in omega (arith, no)
        not-five (inr (inr (inr h))) five = h

-- ---- the reading ended with this fault

module _ {S K : Type 0} (source : SourceGhosts S) (sink : SinkGhosts K) (form : Form) (input input' : S) (old : K) where
  pub fault-answers : (fault : ReadFault) → (fault ≡ Failed → ReadsStop (source.rest input) (source.rest input') (source.calls input) (source.calls input') (limit_of form)) → (fault ≡ TooLong → IfSome (source.rest input) (λ t. limit_of form < length t)) → Answers source sink form (status_after fault) input input' old old
  fault-answers Failed stop over = failed-answers source sink form input input' old (stop refl)
  fault-answers TooLong stop over = long-answers source sink form input input' old (over refl)
  fault-answers NoMemory stop over = memory-answers source sink form input input' old

  pub fault-ends : (fault : ReadFault) → (fault ≡ Failed → Rose (source.faults input) (source.faults input')) → (source.never_fails input → fault ≡ Failed → ⊥) → ((fault ≡ Failed → ⊥) → source.faults input' ≡ source.faults input) → source.faults input ≤ source.faults input' → Ends source sink (status_after fault) input input' old old
  fault-ends Failed rose sound quiet later = stopped-ends source sink form input input' old 4 (inl refl) (λ four. rose refl) (λ other. absurd (other refl)) (λ never four. sound never refl) later
  fault-ends TooLong rose sound quiet later = stopped-ends source sink form input input' old 7 (inr (inr (inl refl))) (λ four. absurd (omega (arith, four))) (λ other. quiet too-long-differs) (λ never four. omega (arith, four)) later
  fault-ends NoMemory rose sound quiet later = stopped-ends source sink form input input' old 6 (inr (inl refl)) (λ four. absurd (omega (arith, four))) (λ other. quiet memory-differs) (λ never four. omega (arith, four)) later
