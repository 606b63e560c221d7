-- What `{}` prints of a refusal.
use Rattle.std.specs.Prelude.{ℕ, List, codes}
use Rattle.windowing.specs.declared.strategy.StrategyRefusal.{StrategyRefusal}
use Rattle.windowing.specs.declared.strategy.StrategyRefusal.TheVariants.{Size, Period, TooManyWindows}

abbrev pub strategy_message : StrategyRefusal → List ℕ
strategy_message Size = codes "a size or a gap is out of its bounds"
strategy_message Period = codes "a period is out of its bounds"
strategy_message TooManyWindows = codes "a time would be in too many windows"
