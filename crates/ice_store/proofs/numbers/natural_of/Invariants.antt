use Rattle.std.proofs.Common.{◌≡◌, ◌≤◌, drop}
use Rattle.std.specs.Str.{all_ascii_digits}
use Rattle.ice_store.specs.Numbers.{number_on, largest_long}
use Rattle.ice_store.proofs.numbers.natural_of.Given as goal

abbrev pub invariant-loop-digit : goal.invariant-loop-digit
invariant-loop-digit l = record {
  digits : all_ascii_digits l.text ≡ all_ascii_digits (drop l.digit-index l.text);
  value : number_on l.number (drop l.digit-index l.text) ≡ number_on 0 l.text;
  small : l.number ≤ largest_long;
}
