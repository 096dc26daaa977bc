-- How long a mapped list is, and what a write makes of it.
use Rattle.std.proofs.lemmas.List.{length-map, map-set}

pub ruleset mapped_write = (length-map, map-set)
