pub mod BlocksTold
pub mod ClustersTold
pub mod Judged
pub mod RisingLists
pub mod SoundTold
