use Rattle.checkpoint_texts.specs.CheckpointText.{bytes_field, place_fields}
use Rattle.checkpoint_texts.proofs.LineLaws.{commas-beyond, page-made}
use Rattle.checkpoint_texts.proofs.lines.put_saved_page.Goals as goal

pub returns : goal.returns
returns c =
    let page = c.args.page.now in
    page-made page.place page.bytes c.args.text.now.items _ _ _ c.in_ok-extend_from_slice.ensures.items
    (commas-beyond (place_fields page.place) (bytes_field page.bytes) _ _ _ c.in_ok-put_place.ensures c.in_ok-put_bytes.ensures)
    c.in_ok-push.ensures.items
