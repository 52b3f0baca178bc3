use Rattle.std.proofs.Common.{inr}
use Rattle.scenario_cli.specs.Words.{words_of}
use Rattle.scenario_cli.proofs.FormClauses.{form-of, headline-of, right-of, no-load-of, no-usage-of, wrong-of, usage-of, refused-of}
use Rattle.scenario_cli.proofs.top.mcrun.Goals as goal

pub returns-then-is_bell_run-clause-ends : goal.returns-then-is_bell_run-clause-ends
returns-then-is_bell_run-clause-ends g c = c.with_bells.ensures.ends

pub returns-then-is_bell_run-clause-headline : goal.returns-then-is_bell_run-clause-headline
returns-then-is_bell_run-clause-headline g c = headline-of (words_of c.args.words.now) (inr (rw c.if-is_bell_run.true at c.is_bell_run.ensures)) c.with_bells.ensures.answers

pub returns-then-is_bell_run-clause-form : goal.returns-then-is_bell_run-clause-form
returns-then-is_bell_run-clause-form g c = form-of (words_of c.args.words.now) (inr (rw c.if-is_bell_run.true at c.is_bell_run.ensures)) c.with_bells.ensures.answers

pub returns-then-is_bell_run-clause-report_of_run : goal.returns-then-is_bell_run-clause-report_of_run
returns-then-is_bell_run-clause-report_of_run g c = right-of (words_of c.args.words.now) (inr (rw c.if-is_bell_run.true at c.is_bell_run.ensures)) c.with_bells.ensures.answers

pub returns-then-is_bell_run-clause-load : goal.returns-then-is_bell_run-clause-load
returns-then-is_bell_run-clause-load g c = λ packets load. no-load-of (words_of c.args.words.now) (inr (rw c.if-is_bell_run.true at c.is_bell_run.ensures)) c.with_bells.ensures.answers _ packets load

pub returns-then-is_bell_run-clause-load_reads_nothing : goal.returns-then-is_bell_run-clause-load_reads_nothing
returns-then-is_bell_run-clause-load_reads_nothing g c = λ packets load. no-load-of (words_of c.args.words.now) (inr (rw c.if-is_bell_run.true at c.is_bell_run.ensures)) c.with_bells.ensures.answers _ packets load

pub returns-then-is_bell_run-clause-usage : goal.returns-then-is_bell_run-clause-usage
returns-then-is_bell_run-clause-usage g c = λ none. no-usage-of (words_of c.args.words.now) (inr (rw c.if-is_bell_run.true at c.is_bell_run.ensures)) c.with_bells.ensures.answers _ none

pub returns-then-is_bell_run-clause-usage_reads_nothing : goal.returns-then-is_bell_run-clause-usage_reads_nothing
returns-then-is_bell_run-clause-usage_reads_nothing g c = λ none. no-usage-of (words_of c.args.words.now) (inr (rw c.if-is_bell_run.true at c.is_bell_run.ensures)) c.with_bells.ensures.answers _ none

pub returns-then-is_bell_run-clause-wrong_words : goal.returns-then-is_bell_run-clause-wrong_words
returns-then-is_bell_run-clause-wrong_words g c = wrong-of (words_of c.args.words.now) (inr (rw c.if-is_bell_run.true at c.is_bell_run.ensures)) c.with_bells.ensures.answers

pub returns-then-is_bell_run-clause-usage_words : goal.returns-then-is_bell_run-clause-usage_words
returns-then-is_bell_run-clause-usage_words g c = usage-of (words_of c.args.words.now) (inr (rw c.if-is_bell_run.true at c.is_bell_run.ensures)) c.with_bells.ensures.answers

pub returns-then-is_bell_run-clause-refused_words : goal.returns-then-is_bell_run-clause-refused_words
returns-then-is_bell_run-clause-refused_words g c = refused-of (words_of c.args.words.now) (inr (rw c.if-is_bell_run.true at c.is_bell_run.ensures)) c.with_bells.ensures.answers
