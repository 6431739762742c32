-- A line of document 01's list: a medium class, its block bytes, pages and blocks per span.
use Rattle.std.specs.Prelude.{ℕ, get_or}
use Rattle.classes.specs.Sizes.{medium_sizes, span_pages, span_capacity}
use Rattle.mediumlist.specs.declared.Line.{Line}

unfoldable pub line_of : ℕ → Line
line_of class = record { class = class; bytes = get_or medium_sizes class 65472; pages = span_pages (get_or medium_sizes class 65472); blocks = span_capacity (get_or medium_sizes class 65472) }
