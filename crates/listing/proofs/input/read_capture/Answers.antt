use Rattle.std.proofs.Common.{rules, ◌≡◌, ◌≤◌, length, IsOk}
use Rattle.listing.proofs.InputLemmas.{if_ok, read_whole}
use Rattle.listing.proofs.input.read_capture.Goals as goal

pub returns-clause-whole : goal.returns-clause-whole
returns-clause-whole g c =
    let few : length c.read_to_end.new.buf.items ≤ 65536 = search rules in
    let ok : IsOk c.read_to_end.result = search rules in
    let limit : c.take-input.result.limit ≡ 65537 = search rules in
    read_whole g.R.Read.remaining _ _ c.args.input _ c.read_to_end.new.buf.items limit c.take-input.ensures.inner c.new-bytes.ensures.items (if_ok c.read_to_end.result ok c.read_to_end.ensures.bytes) few
