-- A plan worked by hand.
use Rattle.std.specs.Prelude.{[], ◌∷◌, ◌≡◌}
use Rattle.plan.specs.Plan.{plan_total}

-- Sizes 0 and 16 are of class 0, with 4,093 blocks a page, 64 takes: 65 takes, 2 pages. Size 16,385 has spans of 3 pages: 2 takes, 6
-- pages. Size 16,384 has 3 blocks a page, one take: 7 takes, 7 pages.
abbrev pub Worked : Type 0
Worked = plan_total (0 ∷ 16385 ∷ 16384 ∷ 16 ∷ []) (60 ∷ 2 ∷ 7 ∷ 5 ∷ []) ≡ 15
