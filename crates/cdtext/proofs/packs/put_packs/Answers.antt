use Rattle.cdtext.proofs.packs.Making.{all_put}
use Rattle.cdtext.proofs.packs.put_packs.Goals as goal

pub returns : goal.returns
returns c =
    let a = c.args in
    all_put a.run.now a.out.now c.put_texts.new.out c.put_sizes.new.out a.titles c.packs_for-n.result c.requires.1 c.packs_for-n.ensures c.put_texts.ensures c.put_sizes.ensures
