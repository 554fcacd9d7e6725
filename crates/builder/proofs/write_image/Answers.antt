-- `builder::write_image` meets its contract: three writes, one behind the other.
use Rattle.builder.proofs.Image.{trailer-room, image-is}
use Rattle.builder.proofs.write_image.Goals as goal

pub put_trailer-requires : goal.put_trailer-requires
put_trailer-requires c =
    let p = c.requires in
    trailer-room c.args.top p.is_top _ p.out_len p.out_len_bound _ c.put_le.ensures _ _ c.write_layer-r.ensures

pub returns : goal.returns
returns c =
    let p = c.requires in
    image-is c.args.top p.is_top _ p.out_len p.out_len_bound _ c.put_le.ensures _ _ c.write_layer-r.ensures _ c.put_trailer.ensures
