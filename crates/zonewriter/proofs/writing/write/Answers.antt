-- The parts fit, and together they are the text.
use Rattle.std.proofs.Common.{◌≤◌, length, sym, ap, arith, rules}
use Rattle.zonetext.specs.Reading.{zone_in}
use Rattle.zonetext.specs.Writing.{text_of}
use Rattle.zonewriter.proofs.Framing.{head_length}
use Rattle.zonewriter.proofs.Wholes.{name_short, window_writable, zone_there, rows_small, same_length, rows_length, short_is, short_after, whole_put, whole_is, whole_after, whole_back}
use Rattle.zonewriter.proofs.writing.write.Goals as goal

pub text_len-requires-clause-fits : goal.text_len-requires-clause-fits
text_len-requires-clause-fits c =
    let n = name_short c.args.name.bytes (omega arith) (sym c.if-not-is_valid.ensures) in
    let e = ap length c.text-text.ensures in
    let f = ap length c.as_slice-rows.ensures.value in
    omega (arith, rows_small c.as_slice-rows.result.now (omega (arith, f, c.args.window.now.few)))

pub text_len-requires-clause-writable : goal.text_len-requires-clause-writable
text_len-requires-clause-writable c = window_writable c.args.window.now _ c.as_slice-rows.ensures.value

pub returns-then-text_len-buffer-clause-is : goal.returns-then-text_len-buffer-clause-is
returns-then-text_len-buffer-clause-is c =
    let l = same_length c.args.name c.args.window.now _ _ c.text-text.ensures c.as_slice-rows.ensures.value in
    short_is (zone_in c.args.name c.args.window.now) _ (sym c.if-not-is_valid.ensures) (omega arith)

pub returns-then-text_len-buffer-clause-after : goal.returns-then-text_len-buffer-clause-after
returns-then-text_len-buffer-clause-after c =
    let l = same_length c.args.name c.args.window.now _ _ c.text-text.ensures c.as_slice-rows.ensures.value in
    short_after (zone_in c.args.name c.args.window.now) c.args.buffer.now (omega arith)

pub head-requires-clause-room : goal.head-requires-clause-room
head-requires-clause-room c =
    omega (arith, head_length c.text-text.result.now c.args.window.now.interval.end, c.new-out.ensures.front, ap length c.new-out.ensures.bytes)

pub rows-requires-clause-writable : goal.rows-requires-clause-writable
rows-requires-clause-writable c = window_writable c.args.window.now _ c.as_slice-rows.ensures.value

pub rows-requires-clause-room : goal.rows-requires-clause-room
rows-requires-clause-room c =
    omega (
      arith,
      head_length c.text-text.result.now c.args.window.now.interval.end,
      rows_length c.as_slice-rows.result.now,
      c.new-out.ensures.front,
      ap length c.new-out.ensures.bytes,
      c.head.ensures.puts.len,
      c.head.ensures.puts.size,
    )

pub line-requires : goal.line-requires
line-requires c =
    omega (
      arith,
      head_length c.text-text.result.now c.args.window.now.interval.end,
      rows_length c.as_slice-rows.result.now,
      c.new-out.ensures.front,
      ap length c.new-out.ensures.bytes,
      c.head.ensures.puts.len,
      c.head.ensures.puts.size,
      c.rows.ensures.puts.len,
      c.rows.ensures.puts.size,
    )

pub returns-clause-is : goal.returns-clause-is
returns-clause-is c =
    let z = zone_in c.args.name c.args.window.now in
    let l = same_length c.args.name c.args.window.now _ _ c.text-text.ensures c.as_slice-rows.ensures.value in
    let h : length (text_of z) ≤ length c.args.buffer.now = omega arith in
    let p = whole_put z _ _ c.text-text.ensures c.as_slice-rows.ensures.value c.new-out.ensures.front c.head.ensures.puts c.rows.ensures.puts c.line.ensures.puts in
    whole_is z _ _ (sym c.if-not-is_valid.ensures) h p.0

pub returns-clause-after : goal.returns-clause-after
returns-clause-after c =
    let z = zone_in c.args.name c.args.window.now in
    let l = same_length c.args.name c.args.window.now _ _ c.text-text.ensures c.as_slice-rows.ensures.value in
    let h : length (text_of z) ≤ length c.args.buffer.now = omega arith in
    let p = whole_put z _ _ c.text-text.ensures c.as_slice-rows.ensures.value c.new-out.ensures.front c.head.ensures.puts c.rows.ensures.puts c.line.ensures.puts in
    whole_after z c.args.buffer.now _ (sym c.if-not-is_valid.ensures) h (search rules)

pub returns-clause-back : goal.returns-clause-back
returns-clause-back c =
    let z = zone_in c.args.name c.args.window.now in
    let p = whole_put z _ _ c.text-text.ensures c.as_slice-rows.ensures.value c.new-out.ensures.front c.head.ensures.puts c.rows.ensures.puts c.line.ensures.puts in
    whole_back z c.args.buffer.now _ _ (zone_there c.args.name c.args.window.now (omega arith) (sym c.if-not-is_valid.ensures)) p.0 (search rules)
