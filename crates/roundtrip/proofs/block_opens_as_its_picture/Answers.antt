use Rattle.roundtrip.proofs.RoundTrip.{page_round_trip, round_trip, smallest_file}
use Rattle.roundtrip.proofs.block_opens_as_its_picture.Goals as goal

pub returns : goal.returns
returns c = record { page = page_round_trip; file = round_trip; smallest = smallest_file }
