-- Whether a program has no Def inside an If, in numbers for other languages.
use Rattle.std.specs.Prelude.{ℕ}
use Rattle.meaning.specs.Known.{Steadiness, steady, def_in_if, faulty}
use Rattle.load.specs.declared.Steady.{Steady}

pub record SteadyNumbers : Type 0 where
  pub steady : ℕ
  pub code : ℕ
  pub place : ℕ
  pub span_start : ℕ
  pub span_end : ℕ

-- a fault of the bytes, 1 to 8
abbrev pub fault_numbers : ℕ → ℕ → SteadyNumbers
fault_numbers c i = record { steady = 0; code = c; place = i; span_start = 0; span_end = 0 }

-- 1 and nothing else, where it has; the first Def inside an If, where it has not; or the fault
abbrev pub steady_numbers : Steadiness → SteadyNumbers
steady_numbers steady = record { steady = 1; code = 0; place = 0; span_start = 0; span_end = 0 }
steady_numbers (def_in_if n b e) = record { steady = 0; code = 0; place = n; span_start = b; span_end = e }
steady_numbers (faulty f) = fault_numbers f.code f.place

abbrev pub steady_means : Steady → SteadyNumbers
steady_means r = record { steady = r.steady; code = r.code; place = r.place; span_start = r.span_start; span_end = r.span_end }
