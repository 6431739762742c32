use Rattle.std.proofs.lemmas.Result.{err_from_is_err_and}
use Rattle.vigbuso.proofs.TraceSteps.{trace-refused, trace-fits, trace-pre, trace-all, trace-stopped}
use Rattle.vigbuso.proofs.trace_call.traced.Goals as goal

pub returns-in_err-check_length : goal.returns-in_err-check_length
returns-in_err-check_length c =
    let p = err_from_is_err_and c.from_residual.result c.from_residual.ensures.1 in rw (p.1, p.2) (search (trace-refused, c.in_err-check_length.ensures))

pub overflow_cast-pages : goal.overflow_cast-pages
overflow_cast-pages c = search (trace-fits, c.in_ok-check_length.ensures)

pub run-course-requires : goal.run-course-requires
run-course-requires c = search (trace-pre, c.in_ok-check_length.ensures)

pub returns-then-course-words : goal.returns-then-course-words
returns-then-course-words c = search (trace-all, c.in_ok-check_length.ensures)

pub returns-else-course-words : goal.returns-else-course-words
returns-else-course-words c = search (trace-stopped, c.in_ok-check_length.ensures)
