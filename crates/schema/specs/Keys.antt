-- The tables of the keys are among those of a pack. Assumes nothing.
use Rattle.std.proofs.Common.{◌<◌, arith}
use Rattle.schema.specs.Tables.{tables}

pub known_2 : 2 < tables
known_2 = omega arith

pub known_3 : 3 < tables
known_3 = omega arith

pub known_4 : 4 < tables
known_4 = omega arith

pub known_5 : 5 < tables
known_5 = omega arith

pub known_6 : 6 < tables
known_6 = omega arith

pub known_7 : 7 < tables
known_7 = omega arith

pub known_24 : 24 < tables
known_24 = omega arith
