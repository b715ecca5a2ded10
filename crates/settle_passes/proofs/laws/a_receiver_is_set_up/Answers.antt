use Rattle.settle_passes.proofs.Wanting.{a_receiver_is_set_up}
use Rattle.settle_passes.proofs.laws.a_receiver_is_set_up.Goals as goal

pub returns : goal.returns
returns c q n s called st names flow confirm w r list sound no_less fits = a_receiver_is_set_up q n s called st names flow confirm w r list sound no_less fits
