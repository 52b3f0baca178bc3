use Rattle.std.proofs.Common.{refl, arith}
use Rattle.scenario_cli.specs.declared.form.Form.TheVariants.{Check}
use Rattle.scenario_cli.specs.Words.{words_of, run_in}
use Rattle.scenario_cli.proofs.FormClauses.{form-of, headline-of, right-of, no-load-of, no-usage-of, wrong-of, usage-of, refused-of}
use Rattle.scenario_cli.proofs.FormWords.{unread-not, unread-ends}
use Rattle.scenario_cli.proofs.top.without_bells.Goals as goal

-- ---- a form with an input

pub returns-in-Some-clause-ends : goal.returns-in-Some-clause-ends
returns-in-Some-clause-ends g c = c.with_input.ensures.ends

pub returns-in-Some-clause-headline : goal.returns-in-Some-clause-headline
returns-in-Some-clause-headline g c = headline-of (words_of c.args.words.now) c.in-Some.ensures.form c.with_input.ensures.answers

pub returns-in-Some-clause-form : goal.returns-in-Some-clause-form
returns-in-Some-clause-form g c = form-of (words_of c.args.words.now) c.in-Some.ensures.form c.with_input.ensures.answers

pub returns-in-Some-clause-report_of_run : goal.returns-in-Some-clause-report_of_run
returns-in-Some-clause-report_of_run g c = right-of (words_of c.args.words.now) c.in-Some.ensures.form c.with_input.ensures.answers

pub returns-in-Some-clause-load : goal.returns-in-Some-clause-load
returns-in-Some-clause-load g c = λ packets load. no-load-of (words_of c.args.words.now) c.in-Some.ensures.form c.with_input.ensures.answers _ packets load

pub returns-in-Some-clause-load_reads_nothing : goal.returns-in-Some-clause-load_reads_nothing
returns-in-Some-clause-load_reads_nothing g c = λ packets load. no-load-of (words_of c.args.words.now) c.in-Some.ensures.form c.with_input.ensures.answers _ packets load

pub returns-in-Some-clause-usage : goal.returns-in-Some-clause-usage
returns-in-Some-clause-usage g c = λ none. no-usage-of (words_of c.args.words.now) c.in-Some.ensures.form c.with_input.ensures.answers _ none

pub returns-in-Some-clause-usage_reads_nothing : goal.returns-in-Some-clause-usage_reads_nothing
returns-in-Some-clause-usage_reads_nothing g c = λ none. no-usage-of (words_of c.args.words.now) c.in-Some.ensures.form c.with_input.ensures.answers _ none

pub returns-in-Some-clause-wrong_words : goal.returns-in-Some-clause-wrong_words
returns-in-Some-clause-wrong_words g c = wrong-of (words_of c.args.words.now) c.in-Some.ensures.form c.with_input.ensures.answers

pub returns-in-Some-clause-usage_words : goal.returns-in-Some-clause-usage_words
returns-in-Some-clause-usage_words g c = usage-of (words_of c.args.words.now) c.in-Some.ensures.form c.with_input.ensures.answers

pub returns-in-Some-clause-refused_words : goal.returns-in-Some-clause-refused_words
returns-in-Some-clause-refused_words g c = refused-of (words_of c.args.words.now) c.in-Some.ensures.form c.with_input.ensures.answers

-- ---- other words

pub returns-in-None-clause-ends : goal.returns-in-None-clause-ends
returns-in-None-clause-ends g c = unread-ends g.S.Source g.K.Sink c.without_input.result c.args.input.now c.args.output.now c.without_input.new.output c.without_input.ensures.unread

pub returns-in-None-clause-headline : goal.returns-in-None-clause-headline
returns-in-None-clause-headline g c = λ mode form. absurd (c.in-None.ensures.none refl (run_in mode) form)

pub returns-in-None-clause-form : goal.returns-in-None-clause-form
returns-in-None-clause-form g c = λ form is. absurd (c.in-None.ensures.none refl form is)

pub returns-in-None-clause-report_of_run : goal.returns-in-None-clause-report_of_run
returns-in-None-clause-report_of_run g c = λ is. absurd (c.in-None.ensures.none refl Check is)

pub returns-in-None-clause-load_reads_nothing : goal.returns-in-None-clause-load_reads_nothing
returns-in-None-clause-load_reads_nothing g c = λ packets is. refl

pub returns-in-None-clause-usage : goal.returns-in-None-clause-usage
returns-in-None-clause-usage g c = λ none. c.without_input.ensures.usage none.no_load

pub returns-in-None-clause-usage_reads_nothing : goal.returns-in-None-clause-usage_reads_nothing
returns-in-None-clause-usage_reads_nothing g c = λ none. refl

pub returns-in-None-clause-wrong_words : goal.returns-in-None-clause-wrong_words
returns-in-None-clause-wrong_words g c = λ is. absurd (unread-not c.without_input.result 1 c.without_input.ensures.unread.statuses (λ e. omega (arith, e)) (λ e. omega (arith, e)) (λ e. omega (arith, e)) (λ e. omega (arith, e)) is)

pub returns-in-None-clause-usage_words : goal.returns-in-None-clause-usage_words
returns-in-None-clause-usage_words g c = λ is. record { no_input = c.in-None.ensures.none refl; no_load = c.without_input.ensures.usage_words is }

pub returns-in-None-clause-refused_words : goal.returns-in-None-clause-refused_words
returns-in-None-clause-refused_words g c = λ is. absurd (unread-not c.without_input.result 3 c.without_input.ensures.unread.statuses (λ e. omega (arith, e)) (λ e. omega (arith, e)) (λ e. omega (arith, e)) (λ e. omega (arith, e)) is)
