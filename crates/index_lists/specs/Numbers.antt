-- The order of numbers is strict, for the proof of an implementation of Before.
use Rattle.std.specs.Prelude.{◌<◌, ◌≤◌, nat_lt}
use Rattle.std.proofs.Common.{arith}
use Rattle.std.proofs.lemmas.Bool.{ltb-true, ltb-false, lt-ltb, le-ltb}
use Rattle.index_lists.specs.Order.{IsStrictOrder}

pub nat_lt-strict : IsStrictOrder nat_lt
nat_lt-strict = record {
  apart = λ a b e. le-ltb b a (let lt : a < b = ltb-true a b e in omega arith);
  goes = λ a b c e f. lt-ltb a c (let lt : a < b = ltb-true a b e in let then : b < c = ltb-true b c f in omega arith);
  total = λ a b apart e. lt-ltb b a (let le : b ≤ a = ltb-false a b e in omega arith);
}
