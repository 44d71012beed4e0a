pub mod PlainWorlds
