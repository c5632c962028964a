use Rattle.std.proofs.Common.{ℕ, List, nat_eq, ap, arith}
use Rattle.std.specs.List.{list_any}
use Rattle.std.specs.Map.{lookup}
use Rattle.rtc_plain_media.specs.declared.stream_name.StreamName.{StreamName}
use Rattle.rtc_plain_media.specs.StreamIndex.{same_name}
use Rattle.rtc_plain_media.proofs.stream_index.StreamIndex.clear.Goals as goal

pub returns-clause-found : goal.returns-clause-found
returns-clause-found c = record {
  places = λ n. ap (λ (es : List (ℕ × ℕ)). lookup (nat_eq n) es) c.clear.ensures.empty;
  names = λ name. ap (λ (es : List (StreamName × ℕ)). lookup (same_name name) es) c.clear-2.ensures.empty;
  numbers = λ n. ap (λ (ks : List ℕ). list_any (nat_eq n) ks) c.clear-3.ensures.empty;
}

pub returns-clause-spare : goal.returns-clause-spare
returns-clause-spare c = λ count fits. record {
  places = omega (arith, fits.places, c.clear.ensures.capacity);
  names = omega (arith, fits.names, c.clear-2.ensures.capacity);
  numbers = omega (arith, fits.numbers, c.clear-3.ensures.capacity);
}

pub returns-clause-room : goal.returns-clause-room
returns-clause-room c = λ count fits. record {
  places = omega (arith, fits.places, c.clear.ensures.capacity);
  names = omega (arith, fits.names, c.clear-2.ensures.capacity);
  numbers = omega (arith, fits.numbers, c.clear-3.ensures.capacity);
}
