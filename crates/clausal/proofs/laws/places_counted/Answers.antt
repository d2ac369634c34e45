use Rattle.clausal.proofs.Rows.{lawful_rows}
use Rattle.clausal.proofs.Counted.{reached_counted, counted_reached, counted_once}
use Rattle.clausal.proofs.laws.places_counted.Goals as goal

pub returns : goal.returns
returns c = λ rows h. record { every = λ p r. reached_counted rows (lawful_rows rows h) r; only = λ p i. counted_reached rows i; once = counted_once rows }
